use Rattle.kp_primes.proofs.Questions.{entails_exact}
use Rattle.kp_primes.proofs.primes.Primes.entails.Goals as goal

pub returns : goal.returns
returns c = rw (← c.self.view_is, c.is_entailed.ensures, c.slice.ensures) (entails_exact _ c.self.invariant.whole c.args.tag.now c.args.lit)
