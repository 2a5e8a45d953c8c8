pub mod Lexemes
pub mod Spans
pub mod Readers
