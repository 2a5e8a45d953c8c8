pub mod Added
pub mod CostTables
pub mod Guides
pub mod Laws
pub mod Placing
pub mod Relaxed
pub mod Waiting
