use Rattle.std.proofs.Common.{◌≡◌, ◌++◌, drop, flat_map}
use Rattle.kp_guide.specs.Added.{rules_of_op, rules_of}
use Rattle.kp_guide.proofs.rules.rules_of.Given as goal

abbrev pub invariant-loop-op : goal.invariant-loop-op
invariant-loop-op l = l.rules.items ++ flat_map rules_of_op (drop l.op-index l.op-items) ≡ rules_of l.task
