use Rattle.kp_cover.proofs.Growing.{is_cov, once_is}
use Rattle.kp_cover.proofs.product.cov.Goals as goal

pub returns : goal.returns
returns c = is_cov c.args.primes.now c.clauses-whole.ensures.whole c.args.clauses.now c.in_ok-tags.tags c.in_ok-kept.kept (rw c.slice.ensures at c.in_ok-tags.ensures) (once_is c.in_ok-tags.tags c.in_ok-kept.kept (rw c.slice-2.ensures at c.in_ok-kept.ensures))
