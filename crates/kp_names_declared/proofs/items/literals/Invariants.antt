use Rattle.std.proofs.Common.{◌≡◌, ◌++◌, map, drop}
use Rattle.kp_tree_grammar.specs.View.{lit_view, domain_view, problem_view}
use Rattle.kp_names_semantics.specs.Numbering.{numbered_lit}
use Rattle.kp_names_declared.proofs.items.literals.Given as goal

abbrev pub invariant-loop-tree : goal.invariant-loop-tree
invariant-loop-tree l = l.row ++ map (numbered_lit (domain_view l.names.domain) (problem_view l.names.problem)) (map lit_view (drop l.tree-index l.trees)) ≡ map (numbered_lit (domain_view l.names.domain) (problem_view l.names.problem)) (map lit_view l.trees)
