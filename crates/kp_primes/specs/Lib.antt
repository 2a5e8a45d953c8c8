pub mod Answers
pub mod Asked
pub mod Held
pub mod Included
pub mod Placed
