pub mod Public
pub mod Refusals
pub mod Rows
pub mod Literals
