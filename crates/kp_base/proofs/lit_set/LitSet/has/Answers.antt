use Rattle.kp_base.proofs.Ascending.{found_is}
use Rattle.kp_base.proofs.lit_set.LitSet.has.Goals as goal

-- a place that is found has the literal, and a gap means that it isn't there
pub returns : goal.returns
returns c = rw c.is_ok.ensures.value (found_is _ _ _ c.search.ensures.found c.search.ensures.absent)
