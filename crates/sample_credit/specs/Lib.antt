pub mod LastInput
