-- The steps of a transcript make at most one book, and give each call at most one meaning.
pub mod TwoBooks
pub mod UniqueForms
pub mod UniqueLanes
pub mod UniqueMarks
pub mod UniqueStates
pub mod UniqueTries
pub mod UniqueAttempts
pub mod UniqueCalls
pub mod UniqueEvents
pub mod UniqueCallers
pub mod UniqueMeanings
pub mod UniqueRuns
pub mod UniqueLines
pub mod UniqueBook
pub mod BareLines
pub mod BareMeanings
