use Rattle.std.proofs.Common.{sym, ◌∙◌}
use Rattle.std.proofs.lemmas.Bool.{not-true}
use Rattle.kp_clauses.proofs.Sets.{ends_outside}
use Rattle.kp_clauses.proofs.clause.ends_outside.Goals as goal

-- the last literal tells
pub returns-in-Some : goal.returns-in-Some
returns-in-Some c = λ h. ends_outside c.args.c.now c.args.d.now _ c.in-Some.x.now (sym (rw c.slice.ensures.value at c.in-Some.ensures.value)) (sym c.has_lit.ensures ∙ not-true c.has_lit.result h)
