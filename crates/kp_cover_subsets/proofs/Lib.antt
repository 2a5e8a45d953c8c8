pub mod Public
pub mod Counting
pub mod InOrder
pub mod Searching
pub mod Sublists
