use Rattle.kp_primes.proofs.Questions.{consistent_exact}
use Rattle.kp_primes.proofs.primes.Primes.consistent.Goals as goal

pub is_inconsistent-requires : goal.is_inconsistent-requires
is_inconsistent-requires c = rw c.slice.ensures (record { holders = c.self.invariant.holders; model = c.self.invariant.whole.has_model })

pub returns : goal.returns
returns c = rw (← c.self.view_is, c.is_inconsistent.ensures, c.slice.ensures) (consistent_exact _ c.self.invariant.whole c.args.tag.now)
