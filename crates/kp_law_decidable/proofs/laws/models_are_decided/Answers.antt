use Rattle.kp_law_decidable.proofs.Modelled.{model_or_none}
use Rattle.kp_law_decidable.proofs.laws.models_are_decided.Goals as goal

pub returns : goal.returns
returns c = model_or_none
