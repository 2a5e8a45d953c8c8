-- The names in the tree of a text, whose words are of all kinds, are names; reserved words, capitals and variables are none.
use Rattle.std.proofs.Common.{ℕ, true, List, [], ◌∷◌, Ok, Err, refl, codes}
use Rattle.kp_lex.specs.declared.token.Token.{Token}
use Rattle.kp_lex.specs.Bytes.{class_of}
use Rattle.kp_lex.specs.Scanning.{cut_from, cut}
use Rattle.kp_lex.specs.Cutting.{name}
use Rattle.kp_tree_grammar.specs.declared.tree.Word.{Word}
use Rattle.kp_tree_grammar.specs.Symbols.{symbol_of}
use Rattle.kp_tree_grammar.specs.Trees.{Term, Cond, Eff, effs_of, Domain}
use Rattle.kp_tree_grammar.specs.Grammar as grammar
use Rattle.kp_tree_grammar.specs.Parsing.{some_at, next_at}
use Rattle.kp_tree_grammar.specs.Texts.{ReadsAs}
use Rattle.kp_tree_grammar.specs.Words.{IsName, IsHead, IsNamedDomain, IsNamedProblem}
use Rattle.kp_tree_grammar.proofs.Computed.{reads_as}
use Rattle.kp_tree_grammar.proofs.ExampleTexts.{word_at, exchange, exchange_tree, exchange_reads, from_p_to_q, from_p_to_q_tree, from_p_to_q_reads}
use Rattle.kp_tree_grammar.proofs.NamedTrees.{domains_named, problems_named}

-- ---- two plain texts

exchange_named : IsNamedDomain exchange_tree
exchange_named = domains_named exchange exchange_tree exchange_reads

from_p_to_q_named : IsNamedProblem from_p_to_q_tree
from_p_to_q_named = problems_named from_p_to_q from_p_to_q_tree from_p_to_q_reads

-- ---- a text with a type, a constant in capitals, variables, and an action named `when`

abbrev typed : List ℕ
typed = codes "(define (domain d) (:types t) (:constants A - t) (:predicates (p ?x - t)) (:action when :parameters (?x - t) :precondition (p ?x)))"

abbrev typed_tree : Domain Word
typed_tree = record {
  kinds = record { word = word_at (codes "t") 27; kinds = [] } ∷ [];
  constants = record { word = word_at (codes "a") 42; kinds = word_at (codes "t") 46 ∷ [] } ∷ [];
  predicates = record { head = word_at (codes "p") 63; params = record { word = word_at (codes "?x") 65; kinds = word_at (codes "t") 70 ∷ [] } ∷ [] } ∷ [];
  schemas = record {
    name = word_at (codes "when") 83;
    params = record { word = word_at (codes "?x") 101; kinds = word_at (codes "t") 106 ∷ [] } ∷ [];
    pre = Cond.atom true (record { head = word_at (codes "p") 124; terms = Term.variable (word_at (codes "?x") 126) ∷ [] });
    effect = Eff.both (effs_of []);
  } ∷ [];
}

abbrev typed_tokens : List Token
typed_tokens = elim (cut 0 typed) [ Ok ts ↦ ts | Err i ↦ [] ]

typed_reads : ReadsAs grammar.domain typed typed_tree
unfolding cut_from class_of symbol_of some_at next_at
typed_reads = reads_as grammar.domain typed typed_tokens typed_tree refl refl

typed_named : IsNamedDomain typed_tree
typed_named = domains_named typed typed_tree typed_reads

-- the constant's name is in lower case, and the action's name need not be a head
constant_is_name : IsName (codes "a")
constant_is_name = typed_named.constants.0.name

when_is_name : IsName (codes "when")
when_is_name = typed_named.schemas.0.name

-- ---- what is refused

when_is_no_head : IsHead (codes "when") → ⊥
unfolding symbol_of
when_is_no_head h = absurd cc

capital_is_no_name : IsName (codes "A") → ⊥
capital_is_no_name h = absurd cc

variable_is_no_name : IsName (codes "?x") → ⊥
unfolding class_of
variable_is_no_name h = elim h.token [ name e all ↦ absurd cc ]
