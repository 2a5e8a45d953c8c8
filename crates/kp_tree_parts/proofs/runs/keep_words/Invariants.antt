use Rattle.std.proofs.Common.{◌≡◌, ◌-◌, length, map, take}
use Rattle.kp_tree_parts.specs.Lexemes.{word_of}
use Rattle.kp_tree_arena.specs.Nodes.{word_view}
use Rattle.kp_tree_parts.proofs.runs.keep_words.Given as goal

abbrev pub invariant-each : goal.invariant-each
invariant-each l = map word_view l.words.items ≡ map word_of (take l.at l.run)

abbrev pub decreases-each : goal.decreases-each
decreases-each l = length l.run - l.at
