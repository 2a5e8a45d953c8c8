use Rattle.std.proofs.Common.{arith}
use Rattle.kp_names_declared.proofs.predicates.Predicates.of.Goals as goal

pub returns-clause-few : goal.returns-clause-few
returns-clause-few c = omega (arith, c.loop-predicate.invariant.few)
