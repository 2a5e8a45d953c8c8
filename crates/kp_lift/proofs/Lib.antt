pub mod Public
pub mod Named
pub mod Merges
pub mod Ending
pub mod Items
pub mod ExampleEither
