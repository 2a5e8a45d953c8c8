pub mod Asked
pub mod Forms
pub mod Usage
pub mod Options
pub mod Command
pub mod Owned
pub mod Laws
