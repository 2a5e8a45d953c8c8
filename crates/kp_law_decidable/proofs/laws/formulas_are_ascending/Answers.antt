use Rattle.kp_law_decidable.proofs.Counting.{formulas_ascend}
use Rattle.kp_law_decidable.proofs.laws.formulas_are_ascending.Goals as goal

pub returns : goal.returns
returns c = formulas_ascend
