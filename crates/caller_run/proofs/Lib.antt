pub mod Planning
pub mod Orders
pub mod Law
pub mod Events
pub mod Forks
