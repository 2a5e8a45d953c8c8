use Rattle.std.proofs.Common.{◌≡◌, ◌++◌, map, drop}
use Rattle.kp_tree_grammar.specs.Trees.{items_of}
use Rattle.kp_tree_grammar.specs.View.{item_view, domain_view, problem_view}
use Rattle.kp_names_semantics.specs.Numbering.{numbered_item, numbered_items}
use Rattle.kp_names_declared.proofs.items.+add_item.Given as goal

-- with what is left come all
abbrev pub invariant-loop-part : goal.invariant-loop-part
invariant-loop-part l = l.items ++ numbered_items (domain_view l.names.domain) (problem_view l.names.problem) (items_of (map item_view (drop l.part-index l.part-items))) ≡ l.fn.items ++ numbered_item (domain_view l.names.domain) (problem_view l.names.problem) (item_view l.tree)
