use Rattle.std.proofs.Common.{◌≡◌, length, take}
use Rattle.kp_names_semantics.specs.Lifted.{bindings}
use Rattle.kp_ground_instances.specs.Counts.{capped}
use Rattle.kp_ground_instances.proofs.counting.binding_number.Given as goal

abbrev pub invariant-loop-range : goal.invariant-loop-range
invariant-loop-range l = l.number ≡ capped (length (bindings (take l.range-index l.ranges)))
