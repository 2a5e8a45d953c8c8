use Rattle.kp_primes.proofs.Lengths.{not_more_and_at_most}
use Rattle.kp_primes.proofs.laws.limits_are_exact.Goals as goal

pub returns : goal.returns
returns c = not_more_and_at_most
