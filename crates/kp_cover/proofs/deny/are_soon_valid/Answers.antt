use Rattle.kp_cover.proofs.Denying.{all_inside_is}
use Rattle.kp_cover.proofs.deny.are_soon_valid.Goals as goal

-- there are few ways
pub returns : goal.returns
returns c = (all_inside_is c.args.primes.now c.clauses-whole.ensures.whole c.args.tags.now c.in_ok-inside.inside c.in_ok-inside.ensures).0
