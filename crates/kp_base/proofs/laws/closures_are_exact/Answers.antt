use Rattle.kp_base.proofs.Closures.{closure_over_first_atoms}
use Rattle.kp_base.proofs.laws.closures_are_exact.Goals as goal

pub returns : goal.returns
returns c = closure_over_first_atoms
