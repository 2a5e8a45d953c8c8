use Rattle.kp_cover_subsets.specs.Sizes.{ArePassed}
use Rattle.kp_cover_subsets.proofs.sizes.least_set.Given as goal

abbrev pub invariant-loop-size : goal.invariant-loop-size
invariant-loop-size g l = ArePassed (g.T.Test.passes l.test) l.n l.limit l.skips l.first l.size
