pub mod Asked
pub mod Chosen
pub mod Known
pub mod Ordered
pub mod Truths
