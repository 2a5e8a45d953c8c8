use Rattle.kp_law_decidable.proofs.Tags.{tags_decided}
use Rattle.kp_law_decidable.proofs.laws.tags_are_decided.Goals as goal

pub returns : goal.returns
returns c = tags_decided
