-- No byte of a key is in two uses. No replaced key is still held, and no used byte is in the rest of a batch.
pub mod UseLists
pub mod Walks
pub mod BaseUses
pub mod BatchFills
pub mod CpuNames
pub mod CpuSteps
pub mod CpuUses
pub mod StateUses
pub mod BatchBytes
pub mod BookUses
pub mod WorkedBooks
