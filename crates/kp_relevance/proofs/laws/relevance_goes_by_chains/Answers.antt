use Rattle.kp_relevance.proofs.Chains.{to_chain, from_chain}
use Rattle.kp_relevance.proofs.laws.relevance_goes_by_chains.Goals as goal

pub returns : goal.returns
returns c = λ acts l m. (to_chain acts l m, from_chain acts l m)
