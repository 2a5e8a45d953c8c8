use Rattle.std.proofs.Common.{◌≡◌, ◌-◌, ◌^◌, min, take, sum_by}
use Rattle.kp_law_ktask.specs.Weight.{both_weight}
use Rattle.kp_ktask.proofs.weights.effects_weight.Given as goal

-- the sum so far
abbrev pub invariant-loop-effect : goal.invariant-loop-effect
invariant-loop-effect l = l.weight ≡ min (sum_by both_weight (take l.effect-index l.effects)) (2 ^ 128 - 1)
