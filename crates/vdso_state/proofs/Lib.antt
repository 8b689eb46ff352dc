mod Copies
pub mod Leading
mod Stepping
mod Calling
