-- The keys of a book: their values, the uses of their bytes, and what is still held.
pub mod KeyInUse
pub mod ServedNamed
pub mod Uses
pub mod LiveMaterial
