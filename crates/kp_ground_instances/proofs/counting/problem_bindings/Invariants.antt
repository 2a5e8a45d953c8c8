use Rattle.std.proofs.Common.{◌≡◌, length, take, sum_by}
use Rattle.kp_names_semantics.specs.Lifted.{bindings}
use Rattle.kp_ground_instances.specs.Counts.{capped}
use Rattle.kp_ground_instances.proofs.counting.problem_bindings.Given as goal

abbrev pub invariant-loop-schema : goal.invariant-loop-schema
invariant-loop-schema l = l.number ≡ capped (sum_by (λ a. length (bindings a.params)) (take l.schema-index l.schema-items))
