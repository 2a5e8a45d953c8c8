use Rattle.std.proofs.Common.{◌≡◌, ◌≤◌, ◌-◌, ◌+◌, ◌*◌, length, map}
use Rattle.kp_tree_grammar.specs.Symbols.{is_left}
use Rattle.kp_tree_grammar.specs.Forms.{within}
use Rattle.kp_tree_parts.specs.Readers.{named_of}
use Rattle.kp_tree_parts.specs.Lexemes.{from}
use Rattle.kp_tree_arena.specs.Nodes.{cond_view}
use Rattle.kp_tree_parts.proofs.Loops.{all_of, with_front}
use Rattle.kp_tree_parts.proofs.conds.+cond.Given as goal

abbrev pub decreases-cond : goal.decreases-cond
decreases-cond l = 3 * l.levels

abbrev pub decreases-conds : goal.decreases-conds
decreases-conds l = 3 * l.levels + 1

abbrev pub decreases-inside : goal.decreases-inside
decreases-inside l = 3 * l.levels + 2

abbrev pub invariant-conds-more : goal.invariant-conds-more
invariant-conds-more l = record {
  onward : l.start ≤ l.at;
  in_range : l.at ≤ length l.tokens;
  so_far : with_front (map cond_view l.parts.items) (all_of l.levels is_left (within (named_of l.role)) (from l.tokens l.at)) ≡ all_of l.levels is_left (within (named_of l.role)) (from l.tokens l.start);
}

abbrev pub decreases-conds-more : goal.decreases-conds-more
decreases-conds-more l = length l.initial.tokens - l.at
