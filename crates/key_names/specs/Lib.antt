pub mod Kernel
pub mod Lanes
pub mod Callers
pub mod Keys
pub mod Transcripts
pub mod Texts
