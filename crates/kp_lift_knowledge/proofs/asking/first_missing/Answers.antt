use Rattle.std.proofs.Common.{sym, ◌∙◌}
use Rattle.kp_lift_knowledge.specs.Known.{known}
use Rattle.kp_lift_knowledge.proofs.Missing.{least_found}
use Rattle.kp_lift_knowledge.proofs.asking.first_missing.Goals as goal

-- the literals before it are known
pub returns-then-not-get-clause-some : goal.returns-then-not-get-clause-some
returns-then-not-get-clause-some c =
    least_found (known c.args.table.now 0) _ c.args.lits.now c.loop-l.l-index c.requires.ascending c.loop-l-test.true c.loop-l.invariant (sym c.get.ensures ∙ c.if-not-get.true)
