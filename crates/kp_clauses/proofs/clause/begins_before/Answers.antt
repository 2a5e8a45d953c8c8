use Rattle.std.proofs.Common.{sym, ltb-true}
use Rattle.kp_clauses.proofs.Sets.{begins_outside}
use Rattle.kp_clauses.proofs.clause.begins_before.Goals as goal

-- the first literals tell
pub returns-in-Some-Some : goal.returns-in-Some-Some
returns-in-Some-Some c = λ h. begins_outside c.args.c.now c.args.d.now c.in-Some-Some.x.now c.in-Some-Some.y.now (sym (rw c.slice.ensures.value at c.in-Some-Some.ensures.value)) (sym (rw c.slice-2.ensures.value at c.in-Some-Some.ensures'.value)) c.slice-2.ensures.ascending (rw (c.code.ensures, c.code-in-Some-Some.ensures) at (ltb-true c.code.result c.code-in-Some-Some.result h))
