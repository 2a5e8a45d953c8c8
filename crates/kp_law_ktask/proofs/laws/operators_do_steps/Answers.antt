use Rattle.kp_law_ktask.proofs.ByNumber.{operators_do_steps}
use Rattle.kp_law_ktask.proofs.laws.operators_do_steps.Goals as goal

pub returns : goal.returns
returns c = operators_do_steps
