use Rattle.kp_relevance.proofs.Ordered.{one_clauses_for}
use Rattle.kp_relevance.proofs.laws.there_is_one_list_of_clauses.Goals as goal

pub returns : goal.returns
returns c = one_clauses_for
