use Rattle.kp_write.proofs.Encoded.{facts_tell_apart}
use Rattle.kp_write.proofs.laws.facts_tell_apart.Goals as goal

pub returns : goal.returns
returns c = facts_tell_apart
