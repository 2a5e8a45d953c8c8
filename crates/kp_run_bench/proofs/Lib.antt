pub mod Public
pub mod ByModels
pub mod OneBench
pub mod Safe
pub mod Told
pub mod Working
