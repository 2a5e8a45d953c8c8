pub mod Summary
pub mod Bench
pub mod Laws
pub mod Working
