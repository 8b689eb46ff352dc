-- The files of proofs/.
mod UsesMore
mod FillsMore
mod UsesSeen
pub mod BaseKeys
mod Beginnings
mod HeldUnused
pub mod UseMoments
-- The files of proofs/.
mod Conforms
mod Along
mod Below
mod Tells
mod Cuts
mod Marks
mod Groups
mod Counts
mod HeldIsLive
pub mod KeySteps
pub mod Outlines
pub mod AttemptsLeave
pub mod VreadsLeave
pub mod CallersLeave
pub mod Latest
pub mod Over
pub mod StateCuts
pub mod ListedCalls
pub mod Starts
pub mod LineEnds
