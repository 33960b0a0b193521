pub mod Scale
pub mod Stored
pub mod Received
