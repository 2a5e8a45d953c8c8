use Rattle.kp_tags.proofs.ByModels.{by_models}
use Rattle.kp_tags.proofs.laws.tables_go_by_models.Goals as goal

pub returns : goal.returns
returns c = by_models
