pub mod Compared
pub mod LinesAgree
pub mod Sound
mod Others
mod Fronts
mod Places
mod Rows
