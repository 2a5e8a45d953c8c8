use Rattle.kp_clash_exclusive.proofs.Public.{shrinks_further}
use Rattle.kp_clash.proofs.settle.settle_in.Goals as goal

pub rounds-preserved : goal.rounds-preserved
rounds-preserved c = shrinks_further c.args.ground.now.actions c.args.pairs.now c.rounds.pairs c.remove.new.pairs c.rounds.invariant c.remove.ensures.shrinks
