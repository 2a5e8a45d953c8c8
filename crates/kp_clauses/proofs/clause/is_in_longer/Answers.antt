use Rattle.std.proofs.Common.{◌∙◌, arith}
use Rattle.kp_clauses.proofs.Walking.{walked_is}
use Rattle.kp_clauses.proofs.clause.is_in_longer.Goals as goal

-- as many are passed over as the second has more
pub returns : goal.returns
returns c = rw (c.slice-lits.ensures.value, c.slice-others.ensures.value) at c.is_walked.ensures ∙ walked_is _ c.args.c.now c.args.d.now c.slice-lits.ensures.ascending c.slice-others.ensures.ascending (let le = c.requires in omega arith)
