use Rattle.std.proofs.Common.{◌≤◌, ◌-◌, length, map, []}
use Rattle.kp_tree_grammar.specs.Symbols.{is_left, is_goal}
use Rattle.kp_tree_grammar.specs.Grammar.{given, has_stood}
use Rattle.kp_tree_parts.specs.Lexemes.{from}
use Rattle.kp_tree_arena.specs.Nodes.{typed_view, item_view}
use Rattle.kp_tree_files.specs.Parts.{goal_view}
use Rattle.kp_tree_parts.proofs.Public.{run_parts_of}
use Rattle.kp_tree_sections.proofs.Stating.{Givens}
use Rattle.kp_tree_sections.proofs.problems.givens.Given as goal

abbrev pub invariant-more : goal.invariant-more
invariant-more l = record {
  onward : l.start ≤ l.at;
  in_range : l.at ≤ length l.tokens;
  kept : Givens (map typed_view l.stated.objects.items) (map item_view l.stated.init.items) (goal_view l.stated.goal) (run_parts_of l.levels is_left given (has_stood is_goal) l.seen.items (from l.tokens l.at)) (run_parts_of l.levels is_left given (has_stood is_goal) [] (from l.tokens l.start));
}

abbrev pub decreases-more : goal.decreases-more
decreases-more l = length l.initial.tokens - l.at
