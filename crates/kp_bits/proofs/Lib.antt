pub mod Packing
pub mod Ranks
