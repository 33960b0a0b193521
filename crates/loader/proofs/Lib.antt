pub mod Passed
pub mod Continued
