use Rattle.kp_classic.proofs.Fitting.{op_fits}
use Rattle.kp_classic.proofs.conds.applicable.Goals as goal

pub are_met-requires : goal.are_met-requires
are_met-requires c = (op_fits c.args.task.now c.args.op _ c.at.result.now c.requires.fit c.requires.of_task c.at.ensures).pre
