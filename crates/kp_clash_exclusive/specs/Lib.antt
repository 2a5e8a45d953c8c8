pub mod Between
pub mod Left
pub mod Paired
pub mod Removed
pub mod Settled
pub mod Starting
