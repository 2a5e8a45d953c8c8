use Rattle.std.proofs.Common.{◌≡◌, ◌-◌, length, map, take}
use Rattle.kp_tree_cursor.specs.Lexemes.{word_of}
use Rattle.kp_plans.proofs.words.texts.Given as goal

abbrev pub invariant-each : goal.invariant-each
invariant-each l = l.texts ≡ map (λ w. (word_of w).text) (take l.at l.words)

abbrev pub decreases-each : goal.decreases-each
decreases-each l = length l.words - l.at
