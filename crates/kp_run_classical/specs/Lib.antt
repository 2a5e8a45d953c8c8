pub mod Classical
pub mod Laws
pub mod Certain
pub mod Numbered
