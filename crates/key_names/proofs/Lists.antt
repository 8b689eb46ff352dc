-- Lemmas about lists, and about the marks of a lane.
pub mod Each
pub mod MarkLists
pub mod Growing
pub mod Chunks
pub mod ListFacts
