use Rattle.std.proofs.Common.{◌≡◌, map, take}
use Rattle.kp_tree_grammar.specs.View as owned
use Rattle.kp_tree_arena.specs.Nodes.{term_view}
use Rattle.kp_tree_arena.proofs.words.copy_terms.Given as goal

-- the copies are equal to the parts before this one
abbrev pub invariant-copies : goal.invariant-copies
invariant-copies l = map owned.term_view l.copies.items ≡ map term_view (take l.node-index l.nodes)
