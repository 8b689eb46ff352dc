-- Lemmas about one call of a caller, for each kind of event.
pub mod ActSteps
pub mod ActsMeant
pub mod AloneDone
pub mod BytesFit
pub mod CallShapes
pub mod Callings
pub mod CanAdvance
pub mod CoreDone
pub mod InsidePath
pub mod InsideDone
pub mod KeyCuts
pub mod OwnSites
pub mod StateReads
pub mod VreadDone
pub mod VreadGoes
