use Rattle.kp_law_decidable.proofs.Relevant.{relevance_decided}
use Rattle.kp_law_decidable.proofs.laws.relevance_is_decided.Goals as goal

pub returns : goal.returns
returns c = relevance_decided
