pub mod Draws
pub mod LaneWords
pub mod Orders
pub mod TableDraws
