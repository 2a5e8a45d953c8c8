use Rattle.kp_clash_exclusive.proofs.Public.{shrinks_further}
use Rattle.kp_clash_sweeps.proofs.sweep.sweep_twice.Goals as goal

pub returns : goal.returns
returns c = shrinks_further c.args.ground.now.actions c.args.pairs.now c.sweep.new.pairs c.sweep-2.new.pairs c.sweep.ensures c.sweep-2.ensures
