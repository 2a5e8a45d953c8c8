pub mod Public
mod Adding
pub mod Bracketed
