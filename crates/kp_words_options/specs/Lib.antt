pub mod Words
pub mod Texts
pub mod Clap
pub mod Scan
