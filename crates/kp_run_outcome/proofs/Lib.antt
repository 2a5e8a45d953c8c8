pub mod Public
pub mod Fronts
pub mod Breaking
pub mod Earlier
