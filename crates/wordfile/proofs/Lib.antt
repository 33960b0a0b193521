pub mod Masks
pub mod Read
pub mod Listed
