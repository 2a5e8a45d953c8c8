use Rattle.std.proofs.Common.{refl}
use Rattle.kp_base.specs.Lit.{negative}
use Rattle.kp_primes.specs.Held.{formula}
use Rattle.kp_primes_first_model.specs.Asked.{passes_one}
use Rattle.kp_primes_first_model.proofs.Tags.{more_below}
use Rattle.kp_primes_first_model.proofs.Splitting.{witness_without}
use Rattle.kp_primes_first_model.proofs.least.find_without.Goals as goal

-- a model of what was found is without the atom
pub returns-then-consistent : goal.returns-then-consistent
returns-then-consistent g c =
    rw c.in_ok-more.ensures
    (witness_without c.args.primes.now.atoms (formula c.args.primes.now) (passes_one (g.T.Question.tests c.args.question.now)) c.args.atom.0 c.args.tag.now c.args.found.now c.requires.in_range c.requires.witness (rw c.in_ok-more.ensures at (c.if-consistent.ensures.0 refl)))

pub find_any-requires-clause-below : goal.find_any-requires-clause-below
find_any-requires-clause-below g c = rw c.in_ok-without.ensures (more_below c.args.primes.now.atoms (negative c.args.atom.0) c.args.tag.now c.requires.below c.requires.in_range)
