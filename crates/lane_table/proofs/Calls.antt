-- The lanes that a pass holds after each call of the table.
pub mod HandLemmas
pub mod AdvanceLemmas
pub mod Telling
pub mod Lent
pub mod WorkedLanes
