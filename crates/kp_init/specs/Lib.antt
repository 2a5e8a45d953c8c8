pub mod Initial
pub mod NamedAtoms
pub mod ByName
pub mod Laws
