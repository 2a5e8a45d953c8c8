use Rattle.kp_tags.proofs.ModesByModels.{made_by_models}
use Rattle.kp_tags.proofs.laws.made_tables_go_by_models.Goals as goal

pub returns : goal.returns
returns c = made_by_models
