pub mod Public
pub mod Answered
pub mod ByModels
pub mod Ended
mod ExampleCovers
pub mod Gathered
pub mod InTurn
pub mod Least
pub mod OneAnswer
pub mod OneSearch
pub mod Places
pub mod Right
pub mod Searched
pub mod Widest
