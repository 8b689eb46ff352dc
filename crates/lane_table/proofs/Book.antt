-- The lanes' lists of visits as a book.
pub mod BookAnswers
pub mod BookBatches
pub mod BookCpus
pub mod BookEffects
pub mod BookEnds
pub mod BookEntries
pub mod BookLawful
pub mod BookMarks
pub mod BookMeans
pub mod BookReplays
pub mod BookSamples
pub mod BookValues
pub mod BookWhole
