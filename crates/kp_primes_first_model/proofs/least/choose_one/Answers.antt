use Rattle.std.proofs.Common.{refl}
use Rattle.kp_primes.specs.Held.{formula}
use Rattle.kp_primes_first_model.specs.Asked.{passes_one}
use Rattle.kp_primes_first_model.proofs.Choosing.{chosen_absent, chosen_present}
use Rattle.kp_primes_first_model.proofs.least.choose_one.Goals as goal

-- some model passes without the atom
pub returns-in_ok-insert-in-Some : goal.returns-in_ok-insert-in-Some
returns-in_ok-insert-in-Some g c =
    rw c.in_ok-insert-in-Some.ensures.value
    (chosen_absent c.args.primes.now.atoms c.args.atom.0 (formula c.args.primes.now) (passes_one (g.T.Question.tests c.args.question.now)) c.args.tag.now c.args.found.now c.args.present.now c.requires.in_range c.requires.chosen c.in-Some.other (rw c.in-Some.is at c.in_ok-other.ensures))

-- none does
pub returns-in_ok-push-in-None : goal.returns-in_ok-push-in-None
returns-in_ok-push-in-None g c =
    rw (c.in_ok-insert-in-None.ensures.value, c.in_ok-push-in-None.ensures.ok)
    (chosen_present c.args.primes.now.atoms c.args.atom.0 (formula c.args.primes.now) (passes_one (g.T.Question.tests c.args.question.now)) c.args.tag.now c.args.found.now c.args.present.now c.requires.in_range c.requires.chosen c.args.atom refl (rw c.in-None.is at c.in_ok-other.ensures))
