use Rattle.std.proofs.Common.{take}
use Rattle.kp_primes.specs.Held.{formula}
use Rattle.kp_tags_modes.specs.Modes.{AreOneForEach}
use Rattle.kp_tags_modes.specs.Added.{Adds}
use Rattle.kp_tags_modes.proofs.adding.add_for_each.Given as goal

-- one merge over each clause so far
abbrev pub invariant-loop-clause : goal.invariant-loop-clause
invariant-loop-clause l = Adds l.target (AreOneForEach (formula l.primes) (take l.clause-index l.clauses)) l.fn.merges l.merges
