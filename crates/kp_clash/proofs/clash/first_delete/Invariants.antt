use Rattle.std.proofs.Common.{◌≡◌, drop}
use Rattle.std.specs.List.{position_from}
use Rattle.kp_clash_exclusive.specs.Paired.{is_pair}
use Rattle.kp_clash.specs.Searching.{clash_together}
use Rattle.kp_clash.proofs.clash.first_delete.Given as goal

-- the place counts the effects that were looked at, and the first one is among the rest
abbrev pub invariant-effects : goal.invariant-effects
invariant-effects l = (l.place ≡ l.effect-index) × (position_from (clash_together (is_pair l.pairs) l.action l.add) l.effect-index (drop l.effect-index l.action.effects) ≡ position_from (clash_together (is_pair l.pairs) l.action l.add) 0 l.action.effects)
