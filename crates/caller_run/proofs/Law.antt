-- The calls of all callers of a script make a lawful transcript.
pub mod LineMarks
pub mod Looks
pub mod Marks
pub mod Seeing
pub mod Whole
