pub mod Remade
pub mod Found
pub mod Replayed
pub mod Seen
pub mod Agreement
pub mod Written
