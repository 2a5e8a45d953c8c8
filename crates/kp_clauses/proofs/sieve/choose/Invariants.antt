use Rattle.std.proofs.Common.{take}
use Rattle.kp_base.specs.Lists.{Member}
use Rattle.kp_clauses.specs.Sieved.{keys}
use Rattle.kp_clauses.proofs.sieve.choose.Given as goal

-- one of the lists of the literals so far
abbrev pub invariant-loop-l : goal.invariant-loop-l
invariant-loop-l l = Member (keys (take l.l-index l.lits)) l.best
