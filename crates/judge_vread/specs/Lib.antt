pub mod Recipe
pub mod Seen
pub mod Inside
pub mod InsideSteps
pub mod Called
pub mod Path
pub mod Laws
