pub mod Static
pub mod Flattening
pub mod Ground
pub mod Weights
pub mod Partial
pub mod Laws
