-- Lemmas about vgetrandom calls and about the list of the state that the calls use.
pub mod Attempts
pub mod CopiesKeep
pub mod CallsKeep
pub mod StatesReplay
pub mod KeyReads
pub mod KeyTakes
pub mod VreadEnds
pub mod VreadRefused
pub mod AskedSystem
