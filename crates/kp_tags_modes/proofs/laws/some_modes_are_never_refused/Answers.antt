use Rattle.kp_tags_modes.proofs.Never.{never_refused}
use Rattle.kp_tags_modes.proofs.laws.some_modes_are_never_refused.Goals as goal

pub returns : goal.returns
returns c = never_refused
