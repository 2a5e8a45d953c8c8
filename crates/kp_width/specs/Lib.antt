pub mod Answers
pub mod Found
pub mod Laws
pub mod Rows
pub mod Width
