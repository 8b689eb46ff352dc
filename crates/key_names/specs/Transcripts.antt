-- Transcripts: their lines, when they are lawful, and the bytes that they print.
pub mod IsTranscript
pub mod TranscriptBook
pub mod StatesReplayed
pub mod PrintedBytes
pub mod SameSteps
pub mod PlacesInOrder
pub mod SeenLine
