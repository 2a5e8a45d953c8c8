use Rattle.std.proofs.Common.{◌≡◌, map, take}
use Rattle.kp_tree_arena.specs.Nodes.{word_view}
use Rattle.kp_tree_arena.proofs.words.copy_words.Given as goal

-- the copies are equal to the words before this one
abbrev pub invariant-copies : goal.invariant-copies
invariant-copies l = l.copies.items ≡ map word_view (take l.node-index l.nodes)
