use Rattle.std.proofs.Common.{◌≡◌, drop, map}
use Rattle.std.specs.List.{flat_map}
use Rattle.kp_tree_grammar.specs.View.{pred_view}
use Rattle.kp_names_semantics.specs.Faults.{twice_in, words}
use Rattle.kp_names.specs.Noted.{noted}
use Rattle.kp_names.proofs.whole.note_parameters.Given as goal

-- with the declarations that are left come all
abbrev pub invariant-loop-predicate : goal.invariant-loop-predicate
invariant-loop-predicate l = noted l.first (flat_map (λ q. twice_in (words q.params)) (map pred_view (drop l.predicate-index l.predicates))) ≡ noted l.fn.first (flat_map (λ q. twice_in (words q.params)) (map pred_view l.predicates))
