use Rattle.std.proofs.Common.{◌≤◌, ◌-◌, length}
use Rattle.kp_tree_cursor.specs.Lexemes.{from}
use Rattle.kp_tags_files.specs.Grammar.{merge}
use Rattle.kp_tags_files.specs.Numbers.{IsMerge}
use Rattle.kp_tags_files.specs.Parts.{SoFar, numbers_of}
use Rattle.kp_tags_files.proofs.reading.merges.Given as goal

-- the merges so far, and the place behind which the others stand
abbrev pub invariant-merges : goal.invariant-merges
invariant-merges l = record {
  within : l.at ≤ length l.tokens;
  so_far : SoFar (numbers_of l.table) (λ _. 0) merge (IsMerge (numbers_of l.table)) l.merges (from l.tokens l.at) l.tokens;
}

abbrev pub decreases-merges : goal.decreases-merges
decreases-merges l = length l.tokens - l.at
