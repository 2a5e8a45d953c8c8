use Rattle.kp_names.proofs.FirstFault.{is_first}
use Rattle.kp_names.proofs.laws.the_first_fault_is_first.Goals as goal

pub returns-clause-some : goal.returns-clause-some
returns-clause-some c = is_first
