use Rattle.std.proofs.Common.{◌≤◌, subst, sym}
use Rattle.kp_guide.proofs.Joins.{total_low}
use Rattle.kp_guide.proofs.settle.relax.Goals as goal

pub join-cost-requires-clause-low_too : goal.join-cost-requires-clause-low_too
join-cost-requires-clause-low_too c = subst (λ n. n ≤ 1000000001) (sym c.cost_of.ensures) (total_low c.args.costs.now c.slice.result.now)
