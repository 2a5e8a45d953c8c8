use Rattle.kp_relevance.proofs.Chains.{within_rules}
use Rattle.kp_relevance.proofs.laws.relevance_is_least.Goals as goal

pub returns : goal.returns
returns c = within_rules
