use Rattle.std.proofs.Common.{refl}
use Rattle.kp_tree_grammar.proofs.lookup.keyword_symbol.Goals as goal

pub returns : goal.returns
returns c = rw (c.known.ensures, c.known-symbol-11.ensures, c.known-symbol-10.ensures, c.known-symbol-9.ensures, c.known-symbol-8.ensures, c.known-symbol-7.ensures, c.known-symbol-6.ensures, c.known-symbol-5.ensures, c.known-symbol-4.ensures, c.known-symbol-3.ensures, c.known-symbol-2.ensures, c.known-symbol.ensures, c.refused_symbol-symbol.ensures) refl
