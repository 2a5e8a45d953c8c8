use Rattle.kp_primes.specs.Held.{formula}
use Rattle.kp_cover.proofs.Denying.{merge_valid}
use Rattle.kp_cover.proofs.merge.is_valid.Goals as goal

pub returns : goal.returns
returns c = merge_valid (formula c.args.primes.now) c.args.table.now c.args.merge.now c.in_ok-tags.tags c.in_ok-valid.valid (rw c.slice.ensures at c.in_ok-tags.ensures) c.in_ok-valid.ensures
