pub mod Pieces
pub mod Tokens
pub mod Maps
pub mod Texts
