pub mod Steps
pub mod NameTables
pub mod Collected
pub mod Unsure
pub mod Chains
pub mod Scopes
