pub mod BaseValue
