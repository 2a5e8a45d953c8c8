use Rattle.kp_law_ktask.proofs.Numbers.{numbered}
use Rattle.kp_law_ktask.proofs.laws.facts_are_numbered.Goals as goal

pub returns : goal.returns
returns c = numbered
