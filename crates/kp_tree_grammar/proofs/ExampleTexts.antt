-- Two small texts with their trees, computed; a word is followed by the byte at which it begins.
use Rattle.std.proofs.Common.{ℕ, true, false, List, [], ◌∷◌, refl, codes}
use Rattle.kp_lex.specs.Bytes.{class_of}
use Rattle.kp_lex.specs.Scanning.{cut_from}
use Rattle.kp_tree_grammar.specs.declared.tree.Word.{Word}
use Rattle.kp_tree_grammar.specs.Symbols.{symbol_of}
use Rattle.kp_tree_grammar.specs.Trees.{Atom, Cond, Eff, effs_of, Item, Pred, Schema, Domain, Problem}
use Rattle.kp_tree_grammar.specs.Grammar as grammar
use Rattle.kp_tree_grammar.specs.Parsing.{some_at, next_at}
use Rattle.kp_tree_grammar.specs.Texts.{ReadsAs}
use Rattle.kp_tree_grammar.proofs.Computed.{tokens, reads_as}

-- ---- words and atoms at a byte

abbrev pub word_at : List ℕ → ℕ → Word
word_at name byte = record { text = name; byte = byte }

abbrev pub atom_at : List ℕ → ℕ → Atom Word
atom_at name byte = record { head = word_at name byte; terms = [] }

abbrev pub pred_at : List ℕ → ℕ → Pred Word
pred_at name byte = record { head = word_at name byte; params = [] }

-- ---- one action that exchanges p for q

abbrev pub exchange : List ℕ
exchange = codes "(define (domain d) (:predicates (p) (q)) (:action a :precondition (p) :effect (and (q) (not (p)))))\n"

abbrev pub exchange_schema : Schema Word
exchange_schema = record {
  name = word_at (codes "a") 50;
  params = [];
  pre = Cond.atom true (atom_at (codes "p") 67);
  effect = Eff.both (effs_of (Eff.makes true (atom_at (codes "q") 84) ∷ Eff.makes false (atom_at (codes "p") 93) ∷ []));
}

abbrev pub exchange_tree : Domain Word
exchange_tree = record { kinds = []; constants = []; predicates = pred_at (codes "p") 33 ∷ pred_at (codes "q") 37 ∷ []; schemas = exchange_schema ∷ [] }

pub exchange_reads : ReadsAs grammar.domain exchange exchange_tree
unfolding cut_from class_of symbol_of some_at next_at
exchange_reads = reads_as grammar.domain exchange (tokens exchange) exchange_tree refl refl

-- ---- from p to q

abbrev pub from_p_to_q : List ℕ
from_p_to_q = codes "(define (problem e) (:domain d) (:init (p)) (:goal (q)))\n"

abbrev pub from_p_to_q_tree : Problem Word
from_p_to_q_tree = record { objects = []; init = Item.fact true (atom_at (codes "p") 40) ∷ []; goal = Cond.atom true (atom_at (codes "q") 52) }

pub from_p_to_q_reads : ReadsAs grammar.problem from_p_to_q from_p_to_q_tree
unfolding cut_from class_of symbol_of some_at next_at
from_p_to_q_reads = reads_as grammar.problem from_p_to_q (tokens from_p_to_q) from_p_to_q_tree refl refl
