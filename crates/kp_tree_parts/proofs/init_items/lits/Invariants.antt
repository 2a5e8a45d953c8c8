use Rattle.std.proofs.Common.{◌≡◌, ◌≤◌, ◌-◌, length, map}
use Rattle.kp_tree_grammar.specs.Symbols.{is_left}
use Rattle.kp_tree_grammar.specs.Grammar.{lit}
use Rattle.kp_tree_parts.specs.Lexemes.{from}
use Rattle.kp_tree_arena.specs.Nodes.{lit_view}
use Rattle.kp_tree_parts.proofs.Loops.{all_of, with_front}
use Rattle.kp_tree_parts.proofs.init_items.lits.Given as goal

abbrev pub invariant-more : goal.invariant-more
invariant-more l = record {
  onward : l.start ≤ l.at;
  in_range : l.at ≤ length l.tokens;
  so_far : with_front (map lit_view l.parts.items) (all_of l.levels is_left lit (from l.tokens l.at)) ≡ all_of l.levels is_left lit (from l.tokens l.start);
}

abbrev pub decreases-more : goal.decreases-more
decreases-more l = length l.initial.tokens - l.at
