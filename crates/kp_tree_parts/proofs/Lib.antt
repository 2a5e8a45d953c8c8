pub mod Public
pub mod Several
pub mod Cases
pub mod Loops
pub mod Views
