-- The texts of scripts and of transcripts, and their spelling.
pub mod ScriptFaults
pub mod ScriptOrFault
pub mod ScriptGrammar
pub mod Spelling
pub mod TranscriptGrammar
