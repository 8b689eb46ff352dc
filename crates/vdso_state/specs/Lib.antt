pub mod Host
pub mod Call
pub mod Turns
pub mod Places
pub mod Local
