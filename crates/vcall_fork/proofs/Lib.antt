pub mod Rests
mod Stopping
mod Forking
mod Sharing
