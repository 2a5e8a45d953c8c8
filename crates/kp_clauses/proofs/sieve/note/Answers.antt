use Rattle.kp_clauses.proofs.Sieving.{same_kept, noted}
use Rattle.kp_clauses.proofs.sieve.note.Goals as goal

-- the spot is put at the end of its list
pub returns-clause-kept : goal.returns-clause-kept
returns-clause-kept c = (noted c.args.lists.now.items c.make_lists.new.lists.items c.args.key _ c.args.spot _ _ (same_kept _ _ c.in_ok-make_lists.ensures.same) c.in_ok-make_lists.ensures.there c.index_mut.ensures.value c.in_ok-push.ensures.ok).0

pub returns-clause-there : goal.returns-clause-there
returns-clause-there c = (noted c.args.lists.now.items c.make_lists.new.lists.items c.args.key _ c.args.spot _ _ (same_kept _ _ c.in_ok-make_lists.ensures.same) c.in_ok-make_lists.ensures.there c.index_mut.ensures.value c.in_ok-push.ensures.ok).1
