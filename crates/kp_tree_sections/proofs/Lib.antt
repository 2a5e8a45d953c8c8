pub mod Joining
pub mod Stating
