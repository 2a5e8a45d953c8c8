use Rattle.std.proofs.Common.{◌≡◌, ◌++◌, drop, flat_map}
use Rattle.kp_guide.specs.Added.{rules_of_effect, rules_of_op}
use Rattle.kp_guide.proofs.rules.push_rules.Given as goal

abbrev pub invariant-loop-effect : goal.invariant-loop-effect
invariant-loop-effect l = l.rules.items ++ flat_map (rules_of_effect l.op) (drop l.effect-index l.effect-items) ≡ l.initial.rules.items ++ rules_of_op l.op
