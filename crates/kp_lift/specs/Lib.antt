pub mod Lifting
pub mod Operators
pub mod Running
