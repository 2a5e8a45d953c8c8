use Rattle.std.proofs.Common.{◌≡◌, ◌++◌, map, drop, flat_map}
use Rattle.kp_tree_grammar.specs.View.{item_view, domain_view, problem_view}
use Rattle.kp_names_semantics.specs.Numbering.{numbered_item}
use Rattle.kp_names_declared.proofs.items.initial_items.Given as goal

abbrev pub invariant-loop-tree : goal.invariant-loop-tree
invariant-loop-tree l = l.items ++ flat_map (numbered_item (domain_view l.names.domain) (problem_view l.names.problem)) (map item_view (drop l.tree-index l.tree-items)) ≡ flat_map (numbered_item (domain_view l.names.domain) (problem_view l.names.problem)) (map item_view l.tree-items)
