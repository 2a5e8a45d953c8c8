pub mod Public
pub mod Scan
pub mod Exact
pub mod LowerCase
pub mod Spans
pub mod Outcomes
pub mod Answered
pub mod Begun
