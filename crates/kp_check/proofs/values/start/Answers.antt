use Rattle.std.proofs.Common.{◌++◌, [], ◌∷◌, sym, ap, ◌∙◌, arith}
use Rattle.std.proofs.lemmas.List.FromFn.{map-range_with_len_more}
use Rattle.kp_base.specs.Lit.{positive}
use Rattle.kp_primes_first_model.specs.Truths.{truth_in}
use Rattle.kp_check.specs.Values.{start}
use Rattle.kp_check.proofs.values.start.Goals as goal

-- one atom more
pub loop-p-preserved : goal.loop-p-preserved
loop-p-preserved c =
    c.in_ok-push.ensures.items
    ∙ (ap (λ vs. vs ++ c.truth_in.result ∷ []) c.loop-p.invariant
    ∙ (ap (λ t. start c.args.known.now c.loop-p.p ++ t ∷ []) c.truth_in.ensures
    ∙ sym (map-range_with_len_more (λ p. truth_in c.args.known.now (positive p)) 0 c.loop-p.p c.loop-p.p (omega arith))))
