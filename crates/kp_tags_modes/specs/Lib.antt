pub mod Added
pub mod Answers
pub mod Assignments
pub mod Laws
pub mod Modes
