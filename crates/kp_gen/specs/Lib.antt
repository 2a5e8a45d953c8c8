pub mod Bombs
pub mod Line
pub mod Lines
pub mod Numbered
