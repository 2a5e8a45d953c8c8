use Rattle.std.proofs.Common.{◌≡◌, take, sum_by}
use Rattle.kp_names.specs.View.{cond_view}
use Rattle.kp_ground_semantics.specs.Weights.{cond_size}
use Rattle.kp_ground_instances.specs.Counts.{capped}
use Rattle.kp_ground_instances.proofs.counting.+condition_size.Given as goal

abbrev pub invariant-loop-part : goal.invariant-loop-part
invariant-loop-part l = l.size ≡ capped (sum_by (λ c. cond_size (cond_view c)) (take l.part-index l.part-items))
