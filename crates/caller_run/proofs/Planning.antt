-- The parent of each caller, and the room (the memory) that each caller gets before the first caller starts.
pub mod OnceEach
pub mod Parents
pub mod Ancestors
pub mod ForkTrees
pub mod Planned
pub mod Slots
pub mod LogFills
pub mod ActWaits
pub mod Sums
