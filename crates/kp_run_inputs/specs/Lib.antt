pub mod SourceTables
pub mod Props
pub mod Tabled
pub mod Tasks
pub mod Actions
pub mod Laws
pub mod Ending
