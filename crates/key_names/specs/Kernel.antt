-- The rules of the kernel and its primitives, each in its own module.
pub mod Blake2s
pub mod Keystream
pub mod InputTimer
pub mod FastPool
pub mod Batches
pub mod Flags
pub mod Points
pub mod VgetrandomState
pub mod BatchCopy
pub mod Vgetrandom
