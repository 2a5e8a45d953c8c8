use Rattle.std.proofs.Common.{take}
use Rattle.kp_base.specs.declared.ground.Effect.{Effect}
use Rattle.kp_base.specs.Lists.{Member}
use Rattle.kp_clash_exclusive.specs.Paired.{is_pair}
use Rattle.kp_clash_exclusive.specs.Removed.{BreaksNone}
use Rattle.kp_clash.proofs.broken.of_effects.Given as goal

-- no effect so far breaks a pair
abbrev pub invariant-loop-effect : goal.invariant-loop-effect
invariant-loop-effect l = (e : Effect) → Member (take l.effect-index l.action.effects) e → BreaksNone (is_pair l.pairs) l.action e
