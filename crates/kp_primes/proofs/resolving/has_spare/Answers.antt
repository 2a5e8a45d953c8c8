use Rattle.std.proofs.Common.{◌∙◌}
use Rattle.kp_primes.proofs.Spreading.{spare_is}
use Rattle.kp_primes.proofs.resolving.has_spare.Goals as goal

-- neither the new clauses nor the prime implicates need it
pub returns : goal.returns
returns c =
    c.is_any_outside.ensures
    ∙ spare_is c.args.primes.now c.args.news.now c.args.lit c.args.c.now c.in_ok-new.new c.in_ok-old.old
    (λ x. c.in_ok-new.ensures x)
    (λ x. rw c.negated.ensures at c.in_ok-old.ensures x)
