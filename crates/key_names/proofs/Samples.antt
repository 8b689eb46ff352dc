-- If the samples of each line are correct, then the samples of a book made from these lines are lawful.
pub mod Lines
pub mod EffectPlaces
pub mod LineVisits
pub mod SampleLaw
