pub mod Known
pub mod Tabled
