pub mod Public
pub mod Exactly
pub mod Models
pub mod Runs
pub mod ExampleFormulas
pub mod NamedAtoms
