use Rattle.std.proofs.Common.{take}
use Rattle.kp_primes.specs.Held.{formula}
use Rattle.kp_tags.specs.Answers.{AreConsistent}
use Rattle.kp_tags.proofs.judging.first_inconsistent.Given as goal

-- the tags so far are consistent
abbrev pub invariant-loop-place : goal.invariant-loop-place
invariant-loop-place l = AreConsistent (formula l.primes) (take l.place l.tags)
