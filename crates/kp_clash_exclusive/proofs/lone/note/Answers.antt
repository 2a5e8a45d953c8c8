use Rattle.std.proofs.Common.{◌≡◌, ℕ, false, subst, inl, inr}
use Rattle.kp_clash_exclusive.specs.Paired.{is_pair}
use Rattle.kp_clash_exclusive.proofs.lone.note.Goals as goal

pub returns-then-has_none : goal.returns-then-has_none
returns-then-has_none c = λ p set. elim (c.set_bit.ensures.no_other p set) [
  | inl before ↦ c.requires p before
  | inr is ↦ subst (λ (r : ℕ). (q : ℕ) → is_pair c.args.pairs.now r q ≡ false) is (c.has_none.ensures c.if-has_none.true)
]
