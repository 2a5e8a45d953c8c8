use Rattle.kp_primes_first_model.proofs.Unique.{first_by_passing}
use Rattle.kp_primes_first_model.proofs.laws.first_goes_by_what_passes.Goals as goal

pub returns : goal.returns
returns c = first_by_passing
