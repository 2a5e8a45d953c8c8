use Rattle.std.proofs.Common.{◌≡◌, drop, map}
use Rattle.std.specs.List.{flat_map}
use Rattle.kp_tree_grammar.specs.View.{item_view}
use Rattle.kp_names_semantics.specs.Faults.{item_faults}
use Rattle.kp_names_declared.specs.Collected.{domain_of, problem_of}
use Rattle.kp_names.specs.Noted.{noted}
use Rattle.kp_names.proofs.whole.note_init.Given as goal

-- with the items that are left come all
abbrev pub invariant-loop-item : goal.invariant-loop-item
invariant-loop-item l = noted l.first (flat_map (item_faults (domain_of l.names) (problem_of l.names)) (map item_view (drop l.item-index l.items))) ≡ noted l.fn.first (flat_map (item_faults (domain_of l.names) (problem_of l.names)) (map item_view l.items))
