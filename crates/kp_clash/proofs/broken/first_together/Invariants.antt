use Rattle.std.proofs.Common.{◌≡◌, false, take}
use Rattle.std.specs.List.{list_any}
use Rattle.kp_clash_exclusive.specs.Paired.{is_pair}
use Rattle.kp_clash_exclusive.specs.Removed.{adds_pair}
use Rattle.kp_clash.proofs.broken.first_together.Given as goal

-- none of the effects so far
abbrev pub invariant-loop-other : goal.invariant-loop-other
invariant-loop-other l = list_any (adds_pair (is_pair l.pairs) l.action l.effect) (take l.other-index l.action.effects) ≡ false
