use Rattle.std.proofs.Common.{◌≡◌, ◌∙◌, ◌+◌, ℕ, suc, map, option_map, drop, sym, subst, arith}
use Rattle.kp_words_options.specs.Texts.{texts}
use Rattle.kp_words.specs.Forms.{value_at}
use Rattle.kp_words.proofs.Lookups.{skips}
use Rattle.kp_words.proofs.lookup.value_at.Goals as goal

pub loop-number-preserved : goal.loop-number-preserved
loop-number-preserved c =
    subst (λ (k : ℕ). value_at (texts (drop k c.args.names.now)) (map (option_map (λ s. s.now)) (drop k c.args.values.now)) c.args.name.now ≡ value_at (texts (drop c.loop-number.number c.args.names.now)) (map (option_map (λ s. s.now)) (drop c.loop-number.number c.args.values.now)) c.args.name.now)
    (let more : suc c.loop-number.number ≡ c.loop-number.number + 1 = omega arith in more)
    (skips (option_map (λ s. s.now)) _ c.args.names.now c.args.values.now c.loop-number.number c.args.name.now c.loop-number-test.true (sym c.eq.ensures ∙ c.if-eq.false))
    ∙ c.loop-number.invariant
