pub mod Calls
pub mod Rule
pub mod Lists
pub mod Book
