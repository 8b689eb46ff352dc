pub mod Stages
pub mod Stops
pub mod Forks
