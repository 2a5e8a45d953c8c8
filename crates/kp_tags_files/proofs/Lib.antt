pub mod Public
mod Comes
mod Walks
mod Contexts
mod Lits
mod Tagged
mod Firsts
mod AtomsFound
mod MergesFound
mod WholeFiles
mod Endings
mod Decided
pub mod OneAnswer
mod Spaced
mod ReadsBack
mod ExampleMerges
