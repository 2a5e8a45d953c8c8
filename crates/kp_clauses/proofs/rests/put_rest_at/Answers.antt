use Rattle.std.proofs.Common.{sym}
use Rattle.kp_base.proofs.Lists.{contains_member}
use Rattle.kp_clauses.proofs.rests.put_rest_at.Goals as goal

-- the clause stands there
pub put_rest-requires-clause-there : goal.put_rest-requires-clause-there
put_rest-requires-clause-there c = contains_member c.args.clauses.now c.in-Some.d.now (c.args.spot.now.place, c.in-Some.ensures.lookup.3.0, sym c.in-Some.ensures.lookup.1)
