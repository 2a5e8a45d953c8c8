use Rattle.std.proofs.Common.{◌≡◌, ◌≤◌, ◌-◌, ◌+◌, length, drop}
use Rattle.std.specs.List.{prefix_len}
use Rattle.kp_tree_cursor.specs.Readers.{is_of}
use Rattle.kp_tree_cursor.proofs.runs.run_end.Given as goal

-- those so far are of the class
abbrev pub invariant-more : goal.invariant-more
invariant-more l = record {
  onward : l.start ≤ l.end;
  in_range : l.end ≤ length l.tokens;
  so_far : l.end + prefix_len (is_of l.class) (drop l.end l.tokens) ≡ l.start + prefix_len (is_of l.class) (drop l.start l.tokens);
}

abbrev pub decreases-more : goal.decreases-more
decreases-more l = length l.initial.tokens - l.end
