-- Facts about the book of a lawful transcript.
pub mod KeyVisits
pub mod TranscriptStates
pub mod GoodSteps
pub mod TranscriptBooks
pub mod TranscriptReplays
pub mod TakenMarks
pub mod CallLists
pub mod CallTakes
pub mod TakenOnce
pub mod TranscriptLaws
pub mod LaneCounts
pub mod PlacesInOrder
pub mod QuietForms
pub mod Settings
