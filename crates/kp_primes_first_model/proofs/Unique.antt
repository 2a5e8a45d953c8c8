-- There is at most one first state, and it goes by what passes.
use Rattle.std.proofs.Common.{◌≡◌, ◌⊎◌, ℕ, zero, suc, Bool, true, false, List, Option, Some, None, refl, sym, subst, ◌∙◌, inl, inr, arith}
use Rattle.std.proofs.lemmas.Bool.{cases_lt}
use Rattle.kp_base.specs.declared.lit.AtomId.{AtomId}
use Rattle.kp_base.specs.Steps.{State, SameBelow, ComesBefore}
use Rattle.kp_primes_first_model.specs.Ordered.{IsFirst, AnswersFirst}

-- two states are the same below n, or one comes before the other
compared : (n : ℕ) (s t : State) → SameBelow n s t ⊎ (ComesBefore s t ⊎ ComesBefore t s)
compared zero s t = inl (λ p lt. absurd (omega arith))
compared (suc n) s t = elim (compared n s t) [
  | inr b ↦ inr b
  | inl same ↦ pick same (s n) (t n) refl refl
]
  where
    longer : SameBelow n s t → s n ≡ t n → SameBelow (suc n) s t
    longer same e p lt = elim (cases_lt p n) [
      | inl less ↦ same p less
      | inr more ↦ let at : n ≡ p = omega arith in subst (λ x. s x ≡ t x) at e
    ]

    pick : SameBelow n s t → (a b : Bool) → s n ≡ a → t n ≡ b → SameBelow (suc n) s t ⊎ (ComesBefore s t ⊎ ComesBefore t s)
    pick same true true h k = inl (longer same (h ∙ sym k))
    pick same false false h k = inl (longer same (h ∙ sym k))
    pick same false true h k = inr (inl (record { at = n; alike = same; absent = h; present = k }))
    pick same true false h k = inr (inr (record { at = n; alike = λ p lt. sym (same p lt); absent = k; present = h }))

-- so two first states are the same
pub first_once : (n : ℕ) (passes : State → Bool) (s t : State) → IsFirst n passes s → IsFirst n passes t → (p : ℕ) → s p ≡ t p
first_once n passes s t f g p = elim (compared n s t) [
  | inl same ↦ elim (cases_lt p n) [
    | inl less ↦ same p less
    | inr more ↦ f.bounded.none_past p more ∙ sym (g.bounded.none_past p more)
  ]
  | inr (inl b) ↦ absurd (g.first s f.passed b)
  | inr (inr b) ↦ absurd (f.first t g.passed b)
]

pub first_by_passing : (n : ℕ) (passes also : State → Bool) (o : Option (List AtomId)) → ((s : State) → passes s ≡ also s) → AnswersFirst n passes o → AnswersFirst n also o
first_by_passing n passes also None same none = λ s. sym (same s) ∙ none s
first_by_passing n passes also (Some ps) same are = (
  record {
    bounded = are.0.bounded;
    passed = sym (same _) ∙ are.0.passed;
    first = λ t h b. are.0.first t (same t ∙ h) b;
  },
  are.1,
)
