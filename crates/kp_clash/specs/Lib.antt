pub mod Paired
pub mod Searching
pub mod Settling
