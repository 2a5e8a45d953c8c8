pub mod Meaning
pub mod Views
pub mod Sets
pub mod Shapes
pub mod Sorting
pub mod Walks
