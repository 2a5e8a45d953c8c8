pub mod Listed
pub mod Rests
pub mod Resolved
pub mod Saturated
pub mod Sieved
pub mod Stored
pub mod Walked
