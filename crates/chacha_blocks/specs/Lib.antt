pub mod Place
pub mod Rows
