-- A task is refused at one limit alone, or it is within both.
use Rattle.std.proofs.Common.{◌≡◌, refl, arith}
use Rattle.kp_base.specs.declared.refused.Refused.{Refused}
use Rattle.kp_base.specs.declared.limits.Limits.{Limits}
use Rattle.kp_classic.specs.declared.task.Task.{Task}
use Rattle.kp_ktask.specs.Translated.{FitsLimits, RefusesTask, facts_over, weight_over}

pub task_once : (t : Task) (m : Limits) (r s : Refused) → RefusesTask t m r → RefusesTask t m s → r ≡ s
task_once t m _ _ (facts_over a) (facts_over b) = refl
task_once t m _ _ (facts_over a) (weight_over b c) = absurd (omega (arith, a, b))
task_once t m _ _ (weight_over a b) (facts_over c) = absurd (omega (arith, a, c))
task_once t m _ _ (weight_over a b) (weight_over c d) = refl

pub task_or_within : (t : Task) (m : Limits) (r : Refused) → RefusesTask t m r → FitsLimits t m → ⊥
task_or_within t m _ (facts_over a) f = let b = f.facts in omega (arith, a, b)
task_or_within t m _ (weight_over a b) f = let c = f.weight in omega (arith, b, c)
