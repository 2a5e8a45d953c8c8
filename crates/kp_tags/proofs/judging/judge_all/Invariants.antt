use Rattle.std.proofs.Common.{take}
use Rattle.kp_primes.specs.Held.{formula}
use Rattle.kp_tags.specs.Answers.{AreAllAcceptable}
use Rattle.kp_tags.proofs.judging.judge_all.Given as goal

-- the merges so far have no fault
abbrev pub invariant-loop-number : goal.invariant-loop-number
invariant-loop-number l = AreAllAcceptable (formula l.primes) (take l.number l.merges)
