-- For each call, the code makes the same answers and data as the definitions.
pub mod MetEffects
pub mod MetSays
pub mod CallMeant
pub mod MeantSaid
pub mod Numbers
pub mod CallsMeant
pub mod Going
pub mod CallLoop
pub mod CallsRange
pub mod ActsSaid
