use Rattle.std.proofs.Common.{◌≡◌, take}
use Rattle.kp_names_semantics.specs.Lifted.{bindings}
use Rattle.kp_ground_instances.proofs.bindings.all_bindings.Given as goal

abbrev pub invariant-loop-number : goal.invariant-loop-number
invariant-loop-number l = l.rows ≡ take l.number (bindings l.ranges)
