pub mod Sheets
pub mod Held
pub mod Histories
pub mod Loaded
