use Rattle.kp_tags.proofs.ModesByModels.{coverage_by_models}
use Rattle.kp_tags.proofs.laws.coverage_goes_by_models.Goals as goal

pub returns : goal.returns
returns c = coverage_by_models
