use Rattle.std.proofs.Common.{◌≡◌, map, take}
use Rattle.kp_tree_grammar.specs.View as owned
use Rattle.kp_tree_arena.specs.Nodes.{cond_view}
use Rattle.kp_tree_arena.proofs.forms.+conds.Given as goal

-- the copies are equal to the parts before this one
abbrev pub invariant-copy_conds-copies : goal.invariant-copy_conds-copies
invariant-copy_conds-copies l = map owned.cond_view l.copies.items ≡ map cond_view (take l.node-index l.nodes)
