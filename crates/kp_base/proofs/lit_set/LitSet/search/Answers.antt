use Rattle.kp_base.proofs.Ascending.{searched}
use Rattle.kp_base.proofs.lit_set.LitSet.search.Goals as goal

-- the slice is the set's list, and a binary search in it ends at the literal or at its gap
pub returns : goal.returns
returns c =
    let facts = c.binary_search.ensures in
    rw (← c.self.view_is, ← c.as_slice.ensures) (searched _ (rw c.as_slice.ensures c.self.invariant) c.args.lit _ facts.bound facts.position)
