use Rattle.std.proofs.Common.{◌≤◌, ◌-◌, length, map}
use Rattle.kp_tree_grammar.specs.Symbols.{is_left}
use Rattle.kp_tree_grammar.specs.Grammar.{section}
use Rattle.kp_tree_parts.specs.Lexemes.{from}
use Rattle.kp_tree_arena.specs.Nodes.{typed_view, pred_view, schema_view}
use Rattle.kp_tree_parts.proofs.Public.{all_parts_of}
use Rattle.kp_tree_sections.proofs.Joining.{Sections}
use Rattle.kp_tree_sections.proofs.domains.sections.Given as goal

abbrev pub invariant-more : goal.invariant-more
invariant-more l = record {
  onward : l.start ≤ l.at;
  in_range : l.at ≤ length l.tokens;
  kept : Sections (map typed_view l.declared.kinds.items) (map typed_view l.declared.constants.items) (map pred_view l.declared.predicates.items) (map schema_view l.declared.schemas.items) (all_parts_of l.levels is_left section (from l.tokens l.at)) (all_parts_of l.levels is_left section (from l.tokens l.start));
}

abbrev pub decreases-more : goal.decreases-more
decreases-more l = length l.initial.tokens - l.at
