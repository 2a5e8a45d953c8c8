pub mod Public
pub mod ExampleTask
pub mod Fitting
pub mod OfGround
pub mod Ordered
pub mod States
pub mod Stepping
