use Rattle.kp_cover.proofs.Taking.{one_cov}
use Rattle.kp_cover.proofs.laws.clauses_have_one_cov.Goals as goal

pub returns : goal.returns
returns c = one_cov
