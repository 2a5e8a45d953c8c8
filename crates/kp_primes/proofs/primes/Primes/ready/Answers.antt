use Rattle.kp_primes.proofs.Questions.{ready_is}
use Rattle.kp_primes.proofs.primes.Primes.ready.Goals as goal

pub invariant_of-result : goal.invariant_of-result
invariant_of-result c = ready_is _ c.in_ok-holders.holders c.in_ok-always.always c.requires (rw c.slice.ensures at c.in_ok-holders.ensures) (rw c.slice-2.ensures at c.in_ok-always.ensures)
