pub mod Keyed
pub mod Scans
pub mod Tallies
pub mod Filling
pub mod Draining
pub mod Seated
pub mod Sifted
pub mod Edited
