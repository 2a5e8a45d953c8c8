use Rattle.std.proofs.Common.{◌≡◌, ◌≤◌, ◌-◌, ◌+◌, ◌*◌, length, map}
use Rattle.kp_tree_grammar.specs.Symbols.{is_left}
use Rattle.kp_tree_grammar.specs.Forms.{within, n_item}
use Rattle.kp_tree_parts.specs.Lexemes.{from}
use Rattle.kp_tree_arena.specs.Nodes.{item_view}
use Rattle.kp_tree_parts.proofs.Loops.{all_of, with_front}
use Rattle.kp_tree_parts.proofs.init_items.+item.Given as goal

abbrev pub decreases-item : goal.decreases-item
decreases-item l = 4 * l.levels

abbrev pub decreases-items : goal.decreases-items
decreases-items l = 4 * l.levels + 1

abbrev pub decreases-inside : goal.decreases-inside
decreases-inside l = 4 * l.levels + 3

abbrev pub decreases-all : goal.decreases-all
decreases-all l = 4 * l.levels + 2

abbrev pub invariant-items-more : goal.invariant-items-more
invariant-items-more l = record {
  onward : l.start ≤ l.at;
  in_range : l.at ≤ length l.tokens;
  so_far : with_front (map item_view l.parts.items) (all_of l.levels is_left (within n_item) (from l.tokens l.at)) ≡ all_of l.levels is_left (within n_item) (from l.tokens l.start);
}

abbrev pub decreases-items-more : goal.decreases-items-more
decreases-items-more l = length l.initial.tokens - l.at
