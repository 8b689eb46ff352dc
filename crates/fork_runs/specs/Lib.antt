pub mod Coming
pub mod Runs
pub mod Stretches
pub mod TableForks
