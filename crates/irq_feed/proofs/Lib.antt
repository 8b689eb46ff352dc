pub mod Changes
pub mod Moves
pub mod Mixings
pub mod Counting
pub mod Feeding
pub mod Paths
pub mod Entries
pub mod Dumps
pub mod FedBooks
mod FedSamples
