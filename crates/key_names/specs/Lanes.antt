-- The lists of the lanes and of the vgetrandom states, and the book that they make.
pub mod LawfulList
pub mod PoolList
pub mod BaseList
pub mod CpuList
pub mod StateList
pub mod Book
pub mod Samples
pub mod PoolNotes
pub mod BookHistory
