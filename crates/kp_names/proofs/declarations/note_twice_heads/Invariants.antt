use Rattle.std.proofs.Common.{◌≡◌, drop, map}
use Rattle.kp_tree_grammar.specs.View.{pred_view}
use Rattle.kp_names_semantics.specs.Faults.{repeated, twice_in}
use Rattle.kp_names.specs.Noted.{noted, heads_of}
use Rattle.kp_names.proofs.declarations.note_twice_heads.Given as goal

-- with those that are left come all
abbrev pub invariant-loop-predicate : goal.invariant-loop-predicate
invariant-loop-predicate l = noted l.first (repeated l.seen (heads_of (map pred_view (drop l.predicate-index l.predicates)))) ≡ noted l.fn.first (twice_in (heads_of (map pred_view l.predicates)))
