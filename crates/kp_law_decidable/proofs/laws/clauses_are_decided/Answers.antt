use Rattle.kp_law_decidable.proofs.Candidates.{clauses_decided}
use Rattle.kp_law_decidable.proofs.laws.clauses_are_decided.Goals as goal

pub returns : goal.returns
returns c = clauses_decided
