pub mod Laws
pub mod Formulas
pub mod Lifts
pub mod Completeness
