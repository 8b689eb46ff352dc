pub mod Words
pub mod Growing
pub mod Finishing
pub mod Callers
