use Rattle.std.proofs.Common.{sym, ◌∙◌}
use Rattle.kp_clauses.proofs.Walking.{ended_at}
use Rattle.kp_clauses.proofs.clause.is_walked.Goals as goal

-- all of the second list is seen
pub returns : goal.returns
returns c = sym (ended_at c.loop-y.left c.loop-y.at c.loop-y.y-index c.args.c.now c.args.d.now c.loop-y.invariant.in_range c.loop-y-test.false) ∙ c.loop-y.invariant.goes_on
