use Rattle.std.proofs.Common.{sym}
use Rattle.kp_clauses.proofs.Storing.{put_apart}
use Rattle.kp_clauses.proofs.store.Store.add.Goals as goal

-- the clauses are as they were, or those that hold the new one are gone
pub invariant_of-self-2 : goal.invariant_of-self-2
invariant_of-self-2 c = put_apart c.put.result _ _ c.args.clause c.self.invariant (rw c.self.view_is (sym c.if-subsumes.ensures)) c.put.ensures.ok c.put.ensures.err
