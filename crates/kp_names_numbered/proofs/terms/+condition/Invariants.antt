use Rattle.std.proofs.Common.{◌≡◌, ◌++◌, map, drop}
use Rattle.kp_tree_grammar.specs.View.{cond_view as tree_view, domain_view, problem_view}
use Rattle.kp_names_semantics.specs.Numbering.{numbered_cond}
use Rattle.kp_names_numbered.specs.View.{cond_view}
use Rattle.kp_names_numbered.proofs.terms.+condition.Given as goal

abbrev pub invariant-loop-part : goal.invariant-loop-part
invariant-loop-part l = map cond_view l.row ++ map (numbered_cond (domain_view l.names.domain) (problem_view l.names.problem) l.scope) (map tree_view (drop l.part-index l.part-items)) ≡ map (numbered_cond (domain_view l.names.domain) (problem_view l.names.problem) l.scope) (map tree_view l.part-items)
