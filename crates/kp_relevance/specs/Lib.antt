pub mod Candidates
pub mod Gathered
pub mod Laws
pub mod Relevant
pub mod Tabled
