use Rattle.kp_clauses.proofs.Resolving.{resolved_steps}
use Rattle.kp_clauses.proofs.clause.join.Goals as goal

-- the others of the first are added, and then those of the second
pub returns : goal.returns
returns c = rw (c.in_ok-add_others-2.ensures, c.in_ok-add_others.ensures, c.new-set.ensures, c.negated.ensures) (resolved_steps c.args.c.now c.args.d.now c.args.lit)
