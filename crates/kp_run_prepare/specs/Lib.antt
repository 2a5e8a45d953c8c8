pub mod Texts
pub mod Refusing
pub mod OwnAtoms
pub mod Prepared
pub mod Numbered
