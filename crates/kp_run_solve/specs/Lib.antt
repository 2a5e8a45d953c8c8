pub mod Laws
pub mod Operators
pub mod Solving
