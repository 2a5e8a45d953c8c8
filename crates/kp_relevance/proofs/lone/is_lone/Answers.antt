use Rattle.std.proofs.Common.{◌≡◌, ◌+◌, ◌*◌, ◌/◌, ◌%◌, ℕ, true, Some, slice_get, sym, subst, ◌∙◌, arith, inl, inr}
use Rattle.std.proofs.lemmas.Bool.{cases_lt}
use Rattle.kp_relevance.proofs.Alone.{bit_there}
use Rattle.kp_relevance.proofs.lone.is_lone.Goals as goal

pub loop-w-preserved : goal.loop-w-preserved
loop-w-preserved c = λ i lt h. elim (cases_lt (i / 64) c.loop-w.w) [
  | inl before ↦ c.loop-w.invariant i before h
  | inr ge ↦
      let at : c.loop-w.w * 64 + i % 64 ≡ i = omega (arith, lt, ge) in
      let read = subst (λ (m : ℕ). slice_get c.args.row.now m ≡ Some true) (sym at) (bit_there c.args.row.now i h) in
      c.has_other.ensures c.if-has_other.false (i % 64) (omega arith) ((c.word.ensures (i % 64) (omega arith)).1 read) ∙ at
]
