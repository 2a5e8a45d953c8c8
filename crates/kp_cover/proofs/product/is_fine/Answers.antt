use Rattle.kp_base.proofs.Lists.{bool_same}
use Rattle.kp_primes.proofs.Public.{consistent_exact}
use Rattle.kp_cover.proofs.product.is_fine.Goals as goal

pub returns : goal.returns
returns c =
    let exact = consistent_exact c.args.primes.now c.clauses-whole.ensures.whole c.args.tag.now in
    bool_same _ _ (λ h. exact.1 (c.consistent.ensures.0 h)) (λ h. c.consistent.ensures.1 (exact.0 h))
