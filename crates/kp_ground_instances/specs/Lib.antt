pub mod Counts
pub mod StaticTables
