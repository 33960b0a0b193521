pub mod Script
pub mod Scan
