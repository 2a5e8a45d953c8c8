pub mod Laws
pub mod Follows
pub mod Commands
pub mod Solve
pub mod Width
pub mod Bench
