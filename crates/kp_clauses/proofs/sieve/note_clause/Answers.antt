use Rattle.std.proofs.Common.{refl}
use Rattle.kp_clauses.proofs.Sieving.{all_kept, keys_below, listed_more}
use Rattle.kp_clauses.proofs.Marking.{marked_kept, marked_longer, marked_more}
use Rattle.kp_clauses.proofs.sieve.note_clause.Goals as goal

pub note-requires : goal.note-requires
note-requires c = keys_below _ _ c.choose-key.ensures

-- the marks of the clauses stay
pub returns-in_err-put_mark-clause-same : goal.returns-in_err-put_mark-clause-same
returns-in_err-put_mark-clause-same c = record { listed = c.requires.listed; marked = rw c.in_err-put_mark.ensures.err (marked_kept _ _ c.requires.marked) }

-- a spot and a mark may stand too much
pub returns-in_err-note-clause-same : goal.returns-in_err-note-clause-same
returns-in_err-note-clause-same c = record { listed = all_kept _ _ _ c.note.ensures.kept c.requires.listed; marked = rw c.in_ok-put_mark.ensures.ok (marked_longer _ _ _ c.requires.marked) }

pub returns-clause-same : goal.returns-clause-same
returns-clause-same c = record { listed = all_kept _ _ _ c.note.ensures.kept c.requires.listed; marked = rw c.in_ok-put_mark.ensures.ok (marked_longer _ _ _ c.requires.marked) }

-- they are those of the clause behind the others
pub returns-clause-more : goal.returns-clause-more
returns-clause-more c = record {
  listed = listed_more _ _ _ _ _ (all_kept _ _ _ c.note.ensures.kept c.requires.listed) c.choose-key.ensures c.in_ok-note.ensures.there refl c.mark.ensures;
  marked = rw c.in_ok-put_mark.ensures.ok (marked_more _ _ _ _ c.requires.marked c.mark.ensures);
}
