use Rattle.std.proofs.Common.{sym}
use Rattle.kp_clauses.proofs.Walking.{longer}
use Rattle.kp_clauses.proofs.clause.is_inside.Goals as goal

-- the first has more
pub returns-then-slice : goal.returns-then-slice
returns-then-slice c = sym (longer c.args.c.now c.args.d.now c.slice-2.ensures.ascending c.slice.ensures.ascending (rw (c.slice.ensures.value, c.slice-2.ensures.value) at c.if-slice.true))
