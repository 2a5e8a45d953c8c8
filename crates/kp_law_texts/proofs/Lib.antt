pub mod Public
pub mod Applied
pub mod Cuts
pub mod Natural
pub mod Fine
pub mod Putting
pub mod Reading
pub mod Texts
