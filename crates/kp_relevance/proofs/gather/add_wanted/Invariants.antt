use Rattle.std.proofs.Common.{◌≡◌, ◌++◌, filter, take}
use Rattle.kp_relevance.specs.Gathered.{is_wanted}
use Rattle.kp_relevance.proofs.gather.add_wanted.Given as goal

abbrev pub invariant-loop-clause : goal.invariant-loop-clause
invariant-loop-clause l = l.found ≡ l.fn.found ++ filter (is_wanted l.relevance l.target) (take l.clause-index l.clauses)
