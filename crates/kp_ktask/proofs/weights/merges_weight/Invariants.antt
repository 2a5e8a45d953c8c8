use Rattle.std.proofs.Common.{◌≡◌, ◌-◌, ◌^◌, min, take, sum_by}
use Rattle.kp_law_ktask.specs.Weight.{merge_weight}
use Rattle.kp_ktask.proofs.weights.merges_weight.Given as goal

-- the sum so far
abbrev pub invariant-loop-merge : goal.invariant-loop-merge
invariant-loop-merge l = l.weight ≡ min (sum_by merge_weight (take l.merge-index l.merges)) (2 ^ 128 - 1)
