use Rattle.std.proofs.Common.{◌≤◌, ◌-◌, length, map}
use Rattle.kp_tree_parts.specs.Lexemes.{from}
use Rattle.kp_tree_arena.specs.Nodes.{typed_view}
use Rattle.kp_tree_parts.specs.Readers.{class_test, group_form}
use Rattle.kp_tree_parts.proofs.Loops.{Groups, groups_of}
use Rattle.kp_tree_parts.proofs.typed_lists.typed.Given as goal

abbrev pub invariant-more : goal.invariant-more
invariant-more l = record {
  onward : l.start ≤ l.at;
  within : l.at ≤ length l.tokens;
  kept : Groups (map typed_view l.typed.items) (groups_of l.levels (class_test l.class) (group_form l.class) (from l.tokens l.at)) (groups_of l.levels (class_test l.class) (group_form l.class) (from l.tokens l.start));
}

abbrev pub decreases-more : goal.decreases-more
decreases-more l = length l.initial.tokens - l.at
