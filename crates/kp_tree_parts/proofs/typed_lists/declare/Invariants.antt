use Rattle.std.proofs.Common.{◌≡◌, ◌++◌, ◌-◌, length, map, take}
use Rattle.kp_tree_arena.specs.Nodes.{word_view, typed_view}
use Rattle.kp_tree_parts.proofs.Loops.{typed_of}
use Rattle.kp_tree_parts.proofs.typed_lists.declare.Given as goal

abbrev pub invariant-each : goal.invariant-each
invariant-each l = map typed_view l.typed.items ≡ map typed_view l.fn.typed.items ++ map (typed_of (map word_view l.kinds)) (take l.at l.run)

abbrev pub decreases-each : goal.decreases-each
decreases-each l = length l.run - l.at
