pub mod Public
pub mod Joined
pub mod Levels
pub mod ExampleLimits
