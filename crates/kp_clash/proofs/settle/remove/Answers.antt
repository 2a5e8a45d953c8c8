use Rattle.std.proofs.Common.{arith}
use Rattle.kp_clash_exclusive.proofs.Public.{shrinks_further, broken_pair_may_go}
use Rattle.kp_clash.proofs.settle.remove.Goals as goal

pub returns-clause-shrinks : goal.returns-clause-shrinks
returns-clause-shrinks c =
    shrinks_further c.args.ground.now.actions c.args.pairs.now c.remove.new.self c.sweep_on.new.pairs
    (broken_pair_may_go c.args.ground.now.actions c.args.p.0 c.args.q.0 c.args.pairs.now c.remove.new.self c.requires c.remove.ensures) c.sweep_on.ensures

pub returns-clause-fewer : goal.returns-clause-fewer
returns-clause-fewer c = omega (arith, c.remove.ensures.fewer, c.sweep_on.ensures.no_more)
