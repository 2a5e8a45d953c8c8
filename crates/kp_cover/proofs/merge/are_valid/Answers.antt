use Rattle.kp_cover.proofs.Denying.{all_inside_is}
use Rattle.kp_cover.proofs.merge.are_valid.Goals as goal

-- the tags are of any atoms
pub returns : goal.returns
returns c = all_inside_is c.args.primes.now c.clauses-whole.ensures.whole c.args.tags.now c.in_ok-inside.inside (rw c.slice-2.ensures at c.in_ok-inside.ensures)
