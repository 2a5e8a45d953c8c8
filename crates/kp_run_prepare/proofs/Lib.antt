pub mod Public
pub mod Reading
pub mod Counted
pub mod Ended
pub mod OneText
pub mod OneStart
pub mod Problems
