use Rattle.kp_primes.specs.Held.{formula}
use Rattle.kp_primes_first_model.specs.Asked.{passes_one}
use Rattle.kp_primes_first_model.specs.Chosen.{IsChosen}
use Rattle.kp_primes_first_model.proofs.least.choose.Given as goal

-- the atoms so far are chosen
abbrev pub invariant-loop-p : goal.invariant-loop-p
invariant-loop-p g l = IsChosen l.primes.atoms l.p (formula l.primes) (passes_one (g.T.Question.tests l.question)) l.tag l.found l.present
