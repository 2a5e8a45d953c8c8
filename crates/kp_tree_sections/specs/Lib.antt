pub mod Sections
pub mod Givens
