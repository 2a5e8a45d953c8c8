use Rattle.std.proofs.Common.{◌+◌}
use Rattle.kp_clash_exclusive.specs.Starting.{pair_of, between}
use Rattle.kp_clash_exclusive.proofs.Starting.{marked_none, marked_on}
use Rattle.kp_clash_exclusive.proofs.Filling.{nothing_between, one_between, between_one}
use Rattle.kp_clash_exclusive.proofs.start.mark_between.Goals as goal

pub loop-q-init : goal.loop-q-init
loop-q-init c = marked_none c.args.atoms (between c.args.p c.args.from c.args.from) c.args.table.now c.requires.square (λ r s _ h. nothing_between c.args.p c.args.from r s h)

pub loop-q-preserved : goal.loop-q-preserved
loop-q-preserved c =
    let p = c.args.p in
    let from = c.args.from in
    let q = c.loop-q.q in
    marked_on c.args.atoms (between p from q) (pair_of p q) (between p from (q + 1)) c.args.table.now c.loop-q.table c.mark_both.new.table (λ r s. one_between p from q r s c.loop-q.auto.q) (λ r s. between_one p from q r s c.loop-q.auto.q) c.loop-q.invariant c.mark_both.ensures
