pub mod After
pub mod Ends
pub mod Fed
pub mod Intakes
pub mod Numbers
pub mod Pairs
pub mod Reads
pub mod Tees
