pub mod Bits
pub mod Stored
pub mod Told
pub mod Kept
pub mod Sequences
