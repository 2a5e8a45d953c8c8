pub mod Lexemes
pub mod Readers
