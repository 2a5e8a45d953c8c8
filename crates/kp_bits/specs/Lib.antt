pub mod Packed
pub mod Ranks
pub mod Rows
