use Rattle.kp_law_ktask.proofs.Known.{facts_are_known}
use Rattle.kp_law_ktask.proofs.laws.facts_are_known.Goals as goal

pub returns : goal.returns
returns c = facts_are_known
