pub mod Compared
pub mod Judged
pub mod Others
pub mod Rows
