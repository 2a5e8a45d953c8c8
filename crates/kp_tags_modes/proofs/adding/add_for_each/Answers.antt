use Rattle.std.proofs.Common.{[], ◌+◌, take, refl}
use Rattle.kp_primes.specs.Held.{formula}
use Rattle.kp_tags_modes.specs.Modes.{AreOneForEach}
use Rattle.kp_tags_modes.proofs.Behind.{adds_none, next_each, next_is}
use Rattle.kp_tags_modes.proofs.adding.add_for_each.Goals as goal

pub loop-clause-init : goal.loop-clause-init
loop-clause-init c = adds_none c.args.target (AreOneForEach (formula c.args.primes.now) []) c.args.merges.now c.args.merges.now AreOneForEach.done refl

-- the merge over one clause more
pub loop-clause-preserved : goal.loop-clause-preserved
loop-clause-preserved c =
    let cs = c.args.clauses.now in
    let k = c.loop-clause.clause-index in
    next_each (formula c.args.primes.now) c.args.target (take k cs) (take (k + 1) cs) c.in_ok-one.one c.clause-item.result c.args.merges.now c.loop-clause.merges c.add_over.new.merges
    (next_is cs k c.clause-item.result c.loop-clause-test.true c.clause-item.is) c.in_ok-one.ensures c.loop-clause.invariant c.in_ok-add_over.ensures
