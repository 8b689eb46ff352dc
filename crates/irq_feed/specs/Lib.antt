pub mod Feeds
pub mod Samples
pub mod Rule
pub mod Passes
pub mod Mixing
pub mod Fed
pub mod TableFeed
