use Rattle.std.proofs.Common.{◌≡◌, ◌-◌, ◌^◌, min, take, sum_by}
use Rattle.kp_law_ktask.specs.Weight.{action_weight}
use Rattle.kp_ktask.proofs.weights.actions_weight.Given as goal

-- the sum so far
abbrev pub invariant-loop-action : goal.invariant-loop-action
invariant-loop-action l = l.weight ≡ min (sum_by (action_weight l.tags) (take l.action-index l.actions)) (2 ^ 128 - 1)
