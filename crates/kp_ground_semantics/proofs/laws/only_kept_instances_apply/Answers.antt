use Rattle.kp_ground_semantics.proofs.Step.{kept_exact}
use Rattle.kp_ground_semantics.proofs.laws.only_kept_instances_apply.Goals as goal

pub returns : goal.returns
returns c = kept_exact
