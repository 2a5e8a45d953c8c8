pub mod Judging
pub mod Failing
pub mod Values
pub mod FailingValues
pub mod Marks
