pub mod Bound
pub mod Nodes
pub mod Laws
pub mod Literals
pub mod Shapes
