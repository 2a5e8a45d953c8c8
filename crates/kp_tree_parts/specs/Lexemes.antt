-- The tokens of the program as tokens of the grammar.
pub use Rattle.kp_tree_cursor.specs.Lexemes.{word_of, term_of, tok, from, lexed, AreCutFrom}
