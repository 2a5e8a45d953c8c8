mod ExampleTexts
pub mod Spelled
pub mod Turns
