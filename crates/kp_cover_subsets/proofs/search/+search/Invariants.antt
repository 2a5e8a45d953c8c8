use Rattle.kp_cover_subsets.proofs.Searching.{GoesOn}
use Rattle.kp_cover_subsets.proofs.search.+search.Given as goal

abbrev pub decreases-search : goal.decreases-search
decreases-search g l = l.k

abbrev pub invariant-loop-i : goal.invariant-loop-i
invariant-loop-i g l = GoesOn (g.T.Test.passes l.test) l.n l.k l.from l.i l.fn.chosen.items l.chosen.items
