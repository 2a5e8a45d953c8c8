use Rattle.std.proofs.Common.{◌≡◌, map, drop}
use Rattle.kp_tree_grammar.specs.View.{item_view}
use Rattle.kp_names_declared.specs.Unsure.{first_unsure}
use Rattle.kp_names_declared.proofs.unsure.first_unsure.Given as goal

abbrev pub invariant-loop-item : goal.invariant-loop-item
invariant-loop-item l = first_unsure (map item_view (drop l.item-index l.items)) ≡ first_unsure (map item_view l.items)
