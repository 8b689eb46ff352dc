-- A caller's steps, in the caller's own order, are the steps of its lines.
pub mod CallChains
pub mod CallLists
pub mod CallSteps
pub mod CallWeights
pub mod Chains
pub mod InOrder
pub mod InsideOrder
pub mod ItemSteps
pub mod OwnPlaces
pub mod OwnSteps
pub mod PartItems
pub mod EmittedAnew
pub mod LoopCalls
