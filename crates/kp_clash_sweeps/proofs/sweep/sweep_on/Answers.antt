use Rattle.kp_clash_exclusive.proofs.Public.{shrinks_further}
use Rattle.kp_clash_sweeps.proofs.sweep.sweep_on.Goals as goal

pub loop-preserved : goal.loop-preserved
loop-preserved c = shrinks_further c.args.ground.now.actions c.args.pairs.now c.loop.pairs c.sweep_twice.new.pairs c.loop.invariant c.sweep_twice.ensures
