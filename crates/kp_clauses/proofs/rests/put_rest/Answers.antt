use Rattle.kp_clauses.proofs.Resting.{rests_more}
use Rattle.kp_clauses.proofs.rests.put_rest.Goals as goal

-- one rest more
pub returns-in_ok-push : goal.returns-in_ok-push
returns-in_ok-push c =
    rw (c.in_ok-push.ensures.ok, c.in_ok-set.ensures)
    (rests_more c.args.clauses.now c.args.e.now c.args.lit c.args.rests.now c.args.d.now c.requires.there (rw (c.in_ok-set.ensures) at (c.is_of_use.ensures c.if-is_of_use.true)) c.requires.rests)
