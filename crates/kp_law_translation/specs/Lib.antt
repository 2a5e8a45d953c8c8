pub mod OfTrees
pub mod Given
pub mod Tables
pub mod Written
pub mod Laws
