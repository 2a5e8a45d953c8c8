use Rattle.std.proofs.Common.{◌≡◌, None, drop}
use Rattle.kp_clash_exclusive.specs.Paired.{is_pair}
use Rattle.kp_clash.specs.Searching.{best_from}
use Rattle.kp_clash.proofs.clash.best_by.Given as goal

-- the place counts the effects that were looked at, and the rest goes on from the first clash so far
abbrev pub invariant-effects : goal.invariant-effects
invariant-effects l = (l.place ≡ l.effect-index) × (best_from (is_pair l.pairs) l.number l.action l.effect-index (drop l.effect-index l.action.effects) l.first ≡ best_from (is_pair l.pairs) l.number l.action 0 l.action.effects None)
