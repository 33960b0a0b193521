pub mod Rows
pub mod Paths
pub mod Indexed
pub mod Judging
