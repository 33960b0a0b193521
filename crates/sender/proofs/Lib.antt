pub mod Followed
pub mod Imaged
