use Rattle.std.proofs.Common.{◌≤◌, ◌-◌, suc, length}
use Rattle.kp_tree_cursor.specs.Lexemes.{from}
use Rattle.kp_tags_files.specs.Grammar.{tag}
use Rattle.kp_tags_files.specs.Numbers.{IsTag}
use Rattle.kp_tags_files.specs.Parts.{SoFar, numbers_of}
use Rattle.kp_tags_files.proofs.reading.tags_at.Given as goal

-- the tags so far, and the place behind which the others stand
abbrev pub invariant-tags : goal.invariant-tags
invariant-tags l = record {
  onward : l.start ≤ l.at;
  within : l.at ≤ length l.tokens;
  so_far : SoFar (numbers_of l.table) suc tag (IsTag (numbers_of l.table)) l.tags (from l.tokens l.at) (from l.tokens l.start);
}

abbrev pub decreases-tags : goal.decreases-tags
decreases-tags l = length l.tokens - l.at
