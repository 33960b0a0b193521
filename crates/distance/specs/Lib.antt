pub mod Distances
pub mod Tails
pub mod Steps
pub mod Laws
pub mod Calls
pub mod Places
