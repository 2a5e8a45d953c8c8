use Rattle.std.proofs.Common.{◌<◌, ℕ, None}
use Rattle.kp_primes.specs.Held.{formula}
use Rattle.kp_primes_first_model.specs.Asked.{AnswersFind, test_at}
use Rattle.kp_primes_first_model.proofs.finding.find_any.Given as goal

-- no model of the tag passes a test so far
abbrev pub invariant-loop-number : goal.invariant-loop-number
invariant-loop-number g l = (k : ℕ) → k < l.number → AnswersFind l.primes.atoms (formula l.primes) (test_at (g.T.Question.tests l.question) k) l.tag None
