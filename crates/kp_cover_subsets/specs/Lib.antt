pub mod Counted
pub mod Laws
pub mod Searched
pub mod Sizes
pub mod Subsets
