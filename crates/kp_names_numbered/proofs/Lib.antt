pub mod Views
pub mod LeftScopes
pub mod KnownTypes
pub mod WholeProblem
pub mod AlikeTable
pub mod SameObjects
pub mod SameRanges
