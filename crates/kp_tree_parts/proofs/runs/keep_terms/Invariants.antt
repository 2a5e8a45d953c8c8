use Rattle.std.proofs.Common.{◌≡◌, ◌-◌, length, map, take}
use Rattle.kp_tree_parts.specs.Lexemes.{term_of}
use Rattle.kp_tree_arena.specs.Nodes.{term_view}
use Rattle.kp_tree_parts.proofs.runs.keep_terms.Given as goal

abbrev pub invariant-each : goal.invariant-each
invariant-each l = map term_view l.terms.items ≡ map term_of (take l.at l.run)

abbrev pub decreases-each : goal.decreases-each
decreases-each l = length l.run - l.at
