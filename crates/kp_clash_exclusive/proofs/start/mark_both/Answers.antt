use Rattle.kp_clash_exclusive.specs.Starting.{pair_of}
use Rattle.kp_clash_exclusive.proofs.Starting.{marked_pair, marked_none, no_pair}
use Rattle.kp_clash_exclusive.proofs.start.mark_both.Goals as goal

pub returns-then-p-q : goal.returns-then-p-q
returns-then-p-q c = marked_pair c.args.atoms c.args.table.now c.mark.new.table c.args.p c.args.q c.mark.ensures

pub returns-else-p-q : goal.returns-else-p-q
returns-else-p-q c = marked_none c.args.atoms (pair_of c.args.p c.args.q) c.args.table.now c.requires.square (λ r s ne h. no_pair c.args.p c.args.q r s c.if-p-q.false ne h)
