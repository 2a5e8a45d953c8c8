use Rattle.std.proofs.Common.{◌≡◌, drop, map}
use Rattle.kp_tree_grammar.specs.Trees.{items_of}
use Rattle.kp_tree_grammar.specs.View.{item_view}
use Rattle.kp_names_semantics.specs.Faults.{item_faults, items_faults}
use Rattle.kp_names_declared.specs.Collected.{domain_of, problem_of}
use Rattle.kp_names.specs.Noted.{noted}
use Rattle.kp_names.proofs.faults.+note_item.Given as goal

-- with the parts that are left come all
abbrev pub invariant-loop-part : goal.invariant-loop-part
invariant-loop-part l = noted l.first (items_faults (domain_of l.names) (problem_of l.names) (items_of (map item_view (drop l.part-index l.part-items)))) ≡ noted l.fn.first (item_faults (domain_of l.names) (problem_of l.names) (item_view l.item))
