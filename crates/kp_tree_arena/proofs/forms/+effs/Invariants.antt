use Rattle.std.proofs.Common.{◌≡◌, map, take}
use Rattle.kp_tree_grammar.specs.View as owned
use Rattle.kp_tree_arena.specs.Nodes.{eff_view}
use Rattle.kp_tree_arena.proofs.forms.+effs.Given as goal

-- the copies are equal to the parts before this one
abbrev pub invariant-copy_effs-copies : goal.invariant-copy_effs-copies
invariant-copy_effs-copies l = map owned.eff_view l.copies.items ≡ map eff_view (take l.node-index l.nodes)
