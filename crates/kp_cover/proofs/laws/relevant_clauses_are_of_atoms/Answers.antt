use Rattle.kp_cover.proofs.Answered.{relevant_below}
use Rattle.kp_cover.proofs.laws.relevant_clauses_are_of_atoms.Goals as goal

pub returns : goal.returns
returns c = relevant_below
