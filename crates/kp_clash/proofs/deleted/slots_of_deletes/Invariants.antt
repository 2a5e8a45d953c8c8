use Rattle.std.proofs.Common.{◌≡◌, true, take}
use Rattle.kp_clash.specs.Searching.{all_noted}
use Rattle.kp_clash.proofs.deleted.slots_of_deletes.Given as goal

-- the effects so far are noted
abbrev pub invariant-loop-effect : goal.invariant-loop-effect
invariant-loop-effect l = all_noted l.slots (take l.effect-index l.effects) ≡ true
