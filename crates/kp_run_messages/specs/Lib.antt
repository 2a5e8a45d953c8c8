pub mod Refusals
pub mod Counterexamples
pub mod Lifting
pub mod Coverage
pub mod Searches
pub mod Widths
