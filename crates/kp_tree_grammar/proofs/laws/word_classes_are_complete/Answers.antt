use Rattle.kp_lex.specs.declared.token.TokenKind.TheVariants as kinds
use Rattle.kp_tree_grammar.proofs.KindTests.{own_kind, other_kind}
use Rattle.kp_tree_grammar.proofs.laws.word_classes_are_complete.Goals as goal

pub returns : goal.returns
returns c = record { names = own_kind kinds.Name; keywords = own_kind kinds.Keyword; no_other = other_kind }
