use Rattle.std.proofs.Common.{◌≡◌, None, subst, inl, inr, arith}
use Rattle.std.proofs.lemmas.Bool.{cases_lt}
use Rattle.kp_primes.specs.Held.{formula}
use Rattle.kp_primes_first_model.specs.Asked.{AnswersFind, test_at}
use Rattle.kp_primes_first_model.proofs.Splitting.{found_by, found_by_none}
use Rattle.kp_primes_first_model.proofs.finding.find_any.Goals as goal

-- the next test has no model of the tag either
pub loop-number-preserved : goal.loop-number-preserved
loop-number-preserved g c k lt = elim (cases_lt k c.loop-number.number) [
  | inl before ↦ c.loop-number.invariant k before
  | inr after ↦
      let at : c.loop-number.number ≡ k = omega (arith, lt, after) in
      subst (λ x. AnswersFind c.args.primes.now.atoms (formula c.args.primes.now) (test_at (g.T.Question.tests c.args.question.now) x) c.args.tag.now None) at (rw (c.in-None.is, c.in_ok-copy.ensures.value) at c.in_ok-found.ensures)
]

pub returns-in-Some : goal.returns-in-Some
returns-in-Some g c = found_by c.args.primes.now.atoms (formula c.args.primes.now) (g.T.Question.tests c.args.question.now) c.loop-number.number c.args.tag.now c.in-Some.found (rw (c.in-Some.is, c.in_ok-copy.ensures.value) at c.in_ok-found.ensures)

pub returns : goal.returns
returns g c = found_by_none c.args.primes.now.atoms (formula c.args.primes.now) (g.T.Question.tests c.args.question.now) c.args.tag.now (λ k lt. c.loop-number.invariant k (omega (arith, lt, c.loop-number-test.false, c.count-count.ensures)))
