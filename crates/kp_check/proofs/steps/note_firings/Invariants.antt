use Rattle.std.proofs.Common.{◌≡◌, map, take}
use Rattle.kp_check.specs.Values.{firing}
use Rattle.kp_check.proofs.steps.note_firings.Given as goal

-- the firings of the effects so far
abbrev pub invariant-loop-effect : goal.invariant-loop-effect
invariant-loop-effect l = l.firings.items ≡ map (firing l.values) (take l.effect-index l.effects)
