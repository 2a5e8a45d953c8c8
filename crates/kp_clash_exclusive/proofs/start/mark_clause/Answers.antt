use Rattle.kp_clash_exclusive.specs.Starting.{denies}
use Rattle.kp_clash_exclusive.proofs.Starting.{marked_none, deny_none}
use Rattle.kp_clash_exclusive.proofs.start.mark_clause.Goals as goal

pub returns-else-clause-eq2 : goal.returns-else-clause-eq2
returns-else-clause-eq2 c = marked_none c.args.atoms (denies c.args.clause.now) c.args.table.now c.requires.square (λ r s _ h. deny_none c.args.clause.now c.requires.ascending c.requires.not_empty c.if-clause-eq1.false c.if-clause-eq2.false r s h)
