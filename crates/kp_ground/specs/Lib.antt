pub mod Grounded
pub mod Passes
pub mod Adds
pub mod Made
pub mod Ascents
pub mod Gathered
