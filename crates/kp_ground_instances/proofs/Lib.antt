pub mod Public
pub mod Capped
pub mod Choices
pub mod Digits
pub mod Views
pub mod Tables
pub mod Weights
pub mod KeptRest
