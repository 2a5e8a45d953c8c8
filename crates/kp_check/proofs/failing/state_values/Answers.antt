use Rattle.std.proofs.Common.{◌++◌, [], ◌∷◌, sym, ap, ◌∙◌, arith}
use Rattle.std.proofs.lemmas.List.FromFn.{map-range_with_len_more}
use Rattle.kp_primes_first_model.specs.Ordered.{state_of_atoms}
use Rattle.kp_check.specs.FailingValues.{decided, state_values}
use Rattle.kp_check.proofs.failing.state_values.Goals as goal

-- one atom more
pub loop-p-preserved : goal.loop-p-preserved
loop-p-preserved c =
    c.in_ok-push.ensures.items
    ∙ (ap (λ vs. vs ++ c.decided.result ∷ []) c.loop-p.invariant
    ∙ (ap (λ t. state_values c.loop-p.p c.args.present.now ++ t ∷ []) (c.decided.ensures ∙ ap decided c.is_one.ensures)
    ∙ sym (map-range_with_len_more (λ p. decided (state_of_atoms c.args.present.now p)) 0 c.loop-p.p c.loop-p.p (omega arith))))
