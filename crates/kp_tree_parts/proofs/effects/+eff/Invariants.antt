use Rattle.std.proofs.Common.{◌≡◌, ◌≤◌, ◌-◌, ◌+◌, ◌*◌, length, map}
use Rattle.kp_tree_grammar.specs.Symbols.{is_left}
use Rattle.kp_tree_grammar.specs.Forms.{within, n_eff}
use Rattle.kp_tree_parts.specs.Lexemes.{from}
use Rattle.kp_tree_arena.specs.Nodes.{eff_view}
use Rattle.kp_tree_parts.proofs.Loops.{all_of, with_front}
use Rattle.kp_tree_parts.proofs.effects.+eff.Given as goal

abbrev pub decreases-eff : goal.decreases-eff
decreases-eff l = 3 * l.levels

abbrev pub decreases-effs : goal.decreases-effs
decreases-effs l = 3 * l.levels + 1

abbrev pub decreases-when : goal.decreases-when
decreases-when l = 3 * l.levels + 1

abbrev pub decreases-each : goal.decreases-each
decreases-each l = 3 * l.levels + 1

abbrev pub decreases-inside : goal.decreases-inside
decreases-inside l = 3 * l.levels + 2

abbrev pub invariant-effs-more : goal.invariant-effs-more
invariant-effs-more l = record {
  onward : l.start ≤ l.at;
  in_range : l.at ≤ length l.tokens;
  so_far : with_front (map eff_view l.parts.items) (all_of l.levels is_left (within n_eff) (from l.tokens l.at)) ≡ all_of l.levels is_left (within n_eff) (from l.tokens l.start);
}

abbrev pub decreases-effs-more : goal.decreases-effs-more
decreases-effs-more l = length l.initial.tokens - l.at
