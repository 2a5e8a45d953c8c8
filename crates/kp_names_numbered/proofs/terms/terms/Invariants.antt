use Rattle.std.proofs.Common.{◌≡◌, ◌++◌, map, drop}
use Rattle.kp_tree_grammar.specs.View.{term_view, domain_view, problem_view}
use Rattle.kp_names_semantics.specs.Numbering.{numbered_term}
use Rattle.kp_names_numbered.proofs.terms.terms.Given as goal

abbrev pub invariant-loop-tree : goal.invariant-loop-tree
invariant-loop-tree l = l.row ++ map (numbered_term (domain_view l.names.domain) (problem_view l.names.problem) l.scope) (map term_view (drop l.tree-index l.trees)) ≡ map (numbered_term (domain_view l.names.domain) (problem_view l.names.problem) l.scope) (map term_view l.trees)
