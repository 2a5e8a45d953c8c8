use Rattle.std.proofs.Common.{◌≡◌, ◌≤◌, ◌-◌, length, map}
use Rattle.kp_tree_grammar.specs.Symbols.{is_left}
use Rattle.kp_tree_grammar.specs.Grammar.{pred}
use Rattle.kp_tree_parts.specs.Lexemes.{from}
use Rattle.kp_tree_arena.specs.Nodes.{pred_view}
use Rattle.kp_tree_parts.proofs.Public.{all_parts_of, with_front}
use Rattle.kp_tree_sections.proofs.sections.preds.Given as goal

abbrev pub invariant-more : goal.invariant-more
invariant-more l = record {
  onward : l.start ≤ l.at;
  in_range : l.at ≤ length l.tokens;
  so_far : with_front (map pred_view l.parts.items) (all_parts_of l.levels is_left pred (from l.tokens l.at)) ≡ all_parts_of l.levels is_left pred (from l.tokens l.start);
}

abbrev pub decreases-more : goal.decreases-more
decreases-more l = length l.initial.tokens - l.at
