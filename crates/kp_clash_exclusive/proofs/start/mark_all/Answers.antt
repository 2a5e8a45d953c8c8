use Rattle.std.proofs.Common.{◌+◌, ◌*◌}
use Rattle.kp_clash_exclusive.specs.Starting.{between}
use Rattle.kp_clash_exclusive.proofs.Starting.{marked_none, marked_on, with_below, below_none}
use Rattle.kp_clash_exclusive.proofs.Filling.{below_more, more_below}
use Rattle.kp_clash_exclusive.proofs.start.mark_all.Goals as goal

pub loop-k-init : goal.loop-k-init
loop-k-init c = marked_none c.args.atoms (with_below c.args.p 0) c.args.table.now c.requires.square (λ r s _ h. below_none c.args.p r s h)

pub loop-k-preserved : goal.loop-k-preserved
loop-k-preserved c =
    let p = c.args.p in
    let k = c.loop-k.k in
    marked_on c.args.atoms (with_below p (k * 64)) (between p (k * 64) (k * 64 + 64)) (with_below p ((k + 1) * 64)) c.args.table.now c.loop-k.table c.mark_word.new.table (below_more p k) (more_below p k) c.loop-k.invariant c.mark_word.ensures
