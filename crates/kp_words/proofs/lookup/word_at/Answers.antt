use Rattle.std.proofs.Common.{◌≡◌, ◌∙◌, ◌+◌, ℕ, suc, Some, map, drop, sym, subst, arith}
use Rattle.kp_words_options.specs.Texts.{texts}
use Rattle.kp_words.specs.Forms.{value_at}
use Rattle.kp_words.proofs.Lookups.{skips_words}
use Rattle.kp_words.proofs.lookup.word_at.Goals as goal

pub loop-number-preserved : goal.loop-number-preserved
loop-number-preserved c =
    subst (λ (k : ℕ). value_at (texts (drop k c.args.names.now)) (map Some (texts (drop k c.args.words.now))) c.args.name.now ≡ value_at (texts (drop c.loop-number.number c.args.names.now)) (map Some (texts (drop c.loop-number.number c.args.words.now))) c.args.name.now)
    (let more : suc c.loop-number.number ≡ c.loop-number.number + 1 = omega arith in more)
    (skips_words _ c.args.names.now c.args.words.now c.loop-number.number c.args.name.now c.loop-number-test.true (sym c.eq.ensures ∙ c.if-eq.false))
    ∙ c.loop-number.invariant
