use Rattle.std.proofs.Common.{◌≡◌, map, drop}
use Rattle.kp_tree_grammar.specs.Trees.{items_of}
use Rattle.kp_tree_grammar.specs.View.{item_view}
use Rattle.kp_names_declared.specs.Unsure.{unsure_item, unsure_items}
use Rattle.kp_names_declared.proofs.unsure.+unsure_word.Given as goal

abbrev pub invariant-loop-part : goal.invariant-loop-part
invariant-loop-part l = unsure_items (items_of (map item_view (drop l.part-index l.part-items))) ≡ unsure_item (item_view l.item)
