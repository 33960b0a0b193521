pub mod Format
pub mod Transfers
pub mod Calls
