use Rattle.kp_clauses.proofs.Saturated.{saturation_exact}
use Rattle.kp_clauses.proofs.laws.saturated_clauses_are_the_prime_implicates.Goals as goal

pub returns : goal.returns
returns c = saturation_exact
