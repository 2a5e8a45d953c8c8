use Rattle.kp_primes_first_model.proofs.Unique.{first_once}
use Rattle.kp_primes_first_model.proofs.laws.there_is_one_first.Goals as goal

pub returns : goal.returns
returns c = first_once
