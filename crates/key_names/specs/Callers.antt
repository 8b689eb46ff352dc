-- The calls of each caller, in the caller's order: the steps, the answers and the meaning of each call.
pub mod LineSamples
pub mod Calls
pub mod Effects
pub mod Forms
pub mod Answers
pub mod History
pub mod StateCalls
pub mod VreadSteps
pub mod Meaning
pub mod CallerOrders
