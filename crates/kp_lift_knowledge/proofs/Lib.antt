pub mod Tables
pub mod Stepping
pub mod Missing
pub mod Closures
pub mod ExampleKnowing
