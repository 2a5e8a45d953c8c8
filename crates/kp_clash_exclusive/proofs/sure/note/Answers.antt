use Rattle.std.proofs.Common.{sym, ◌∙◌, subst, ℕ, ◌≡◌, true, inl, inr}
use Rattle.kp_clash_exclusive.specs.Settled.{deletes_within}
use Rattle.kp_clash_exclusive.proofs.Noted.{surely_deletes}
use Rattle.kp_clash_exclusive.proofs.sure.note.Goals as goal

pub returns-then-surely_deletes : goal.returns-then-surely_deletes
returns-then-surely_deletes c = λ q set. elim (c.set_bit.ensures.no_other q set) [
  | inl before ↦ c.requires.before q before
  | inr is ↦ subst (λ (p : ℕ). deletes_within c.args.action.now p c.args.action.now.pre ≡ true) is (surely_deletes c.args.action.now c.args.effect.now c.requires.of_action (sym c.surely_deletes.ensures ∙ c.if-surely_deletes.true))
]
