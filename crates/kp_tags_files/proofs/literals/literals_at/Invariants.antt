use Rattle.std.proofs.Common.{◌≤◌, ◌-◌, length}
use Rattle.kp_tree_cursor.specs.Lexemes.{from}
use Rattle.kp_tags_files.specs.Parts.{LitsSoFar, numbers_of}
use Rattle.kp_tags_files.proofs.literals.literals_at.Given as goal

-- the literals so far, and the place behind which the others stand
abbrev pub invariant-literals : goal.invariant-literals
invariant-literals l = record {
  onward : l.start ≤ l.at;
  within : l.at ≤ length l.tokens;
  so_far : LitsSoFar (numbers_of l.table) l.set (from l.tokens l.at) (from l.tokens l.start);
}

abbrev pub decreases-literals : goal.decreases-literals
decreases-literals l = length l.tokens - l.at
