pub mod MergeTables
pub mod Answers
pub mod Laws
pub mod Made
pub mod Kept
