use Rattle.std.proofs.Common.{◌≡◌, take, sum_by}
use Rattle.kp_names.specs.View.{eff_view}
use Rattle.kp_ground_semantics.specs.Weights.{leaves_weight}
use Rattle.kp_ground_instances.specs.Counts.{capped}
use Rattle.kp_ground_instances.proofs.counting.+all_leaves.Given as goal

abbrev pub invariant-loop-part : goal.invariant-loop-part
invariant-loop-part l = l.within ≡ capped (sum_by (λ e. leaves_weight l.leaf (eff_view e)) (take l.part-index l.part-items))
