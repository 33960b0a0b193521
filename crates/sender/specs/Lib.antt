pub mod Effects
pub mod Accounts
pub mod Reports
pub mod Images
