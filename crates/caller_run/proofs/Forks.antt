-- Lemmas about the run of a caller with all callers that it forks.
pub mod HasAdvanced
pub mod HasForked
pub mod Forking
pub mod WentOn
pub mod Joins
pub mod Runs
pub mod Gathers
pub mod AllCallers
pub mod Alone
