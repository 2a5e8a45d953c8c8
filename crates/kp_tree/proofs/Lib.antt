pub mod Public
pub mod OneAnswer
pub mod WholeFiles
pub mod First
pub mod Whole
pub mod Told
pub mod Begun
