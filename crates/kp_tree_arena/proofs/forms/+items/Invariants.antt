use Rattle.std.proofs.Common.{◌≡◌, map, take}
use Rattle.kp_tree_grammar.specs.View as owned
use Rattle.kp_tree_arena.specs.Nodes.{item_view}
use Rattle.kp_tree_arena.proofs.forms.+items.Given as goal

-- the copies are equal to the parts before this one
abbrev pub invariant-copy_items-copies : goal.invariant-copy_items-copies
invariant-copy_items-copies l = map owned.item_view l.copies.items ≡ map item_view (take l.node-index l.nodes)
