pub mod Fits
pub mod Grounded
pub mod Laws
pub mod Packed
pub mod Runs
pub mod States
pub mod Steps
