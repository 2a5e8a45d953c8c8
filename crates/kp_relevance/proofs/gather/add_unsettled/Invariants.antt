use Rattle.std.proofs.Common.{◌≡◌, ◌++◌}
use Rattle.kp_relevance.specs.Gathered.{unsettled_below}
use Rattle.kp_relevance.proofs.gather.add_unsettled.Given as goal

abbrev pub invariant-loop-p : goal.invariant-loop-p
invariant-loop-p l = l.found ≡ l.fn.found ++ unsettled_below l.relevance l.known l.target l.p
