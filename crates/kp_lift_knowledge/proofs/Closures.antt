-- One more closure is noted.
use Rattle.std.proofs.Common.{◌≡◌, ◌<◌, ◌+◌, ◌&&◌, ◌||◌, ℕ, Bool, true, false, List, length, get_or, slice_get, nat_eq, nat_lt, refl, sym, ap, ◌∙◌, arith, inl, inr, eq-eqb}
use Rattle.std.proofs.lemmas.Bool.{cases_eq, cases_lt, lt-ltb, le-ltb, ne_eqb}
use Rattle.std.proofs.lemmas.Option.{slice_get-get_or}
use Rattle.kp_base.specs.declared.lit.Lit.{Lit}
use Rattle.kp_base.specs.declared.ground.TagRow.{TagRow}
use Rattle.kp_base.specs.Lit.{has}
use Rattle.kp_base.specs.Machine.{closure_of}
use Rattle.kp_lift_knowledge.specs.Known.{Table, known}
use Rattle.kp_lift_knowledge.specs.Tabled.{Turns}

module _ (old mid new : Table) (tags : List TagRow) (t : ℕ) (row : TagRow) (closure : List Lit) (lt : t < length tags) (is : closure ≡ (get_or tags t row).closure) where
  abbrev closure_at : ℕ → List Lit
  closure_at s = closure_of (slice_get tags s)

  here : closure_at t ≡ closure
  here = ap closure_of (slice_get-get_or tags t row lt) ∙ sym is

  -- what is noted of the tag itself, and the others
  one_more : (s : ℕ) (l : Lit) (b : Bool) → ((b || (nat_lt s t && has (closure_at s) l)) || (nat_eq s t && has closure l)) ≡ (b || (nat_lt s (t + 1) && has (closure_at s) l))
  one_more s l b = elim (cases_eq s t) [
    | inl same ↦
        let before : nat_lt s t ≡ false = le-ltb s t (omega (arith, same)) in
        let now : nat_lt s (t + 1) ≡ true = lt-ltb s (t + 1) (omega (arith, same)) in
        let at : closure_at s ≡ closure = ap closure_at same ∙ here in
        rw (before, now, eq-eqb s t same, at) (by b (has closure l))
    | inr ne ↦ rw (other s ne, more s ne) (off b (nat_lt s t && has (closure_at s) l))
  ]
    where
      by : (b c : Bool) → ((b || false) || c) ≡ (b || c)
      by true c = refl
      by false c = refl

      off : (b c : Bool) → ((b || c) || false) ≡ (b || c)
      off true c = refl
      off false true = refl
      off false false = refl

      other : (s : ℕ) → (s ≡ t → ⊥) → nat_eq s t ≡ false
      other s ne = ne_eqb s t ne

      more : (s : ℕ) → (s ≡ t → ⊥) → nat_lt s (t + 1) ≡ nat_lt s t
      more s ne = elim (cases_lt s t) [
        | inl less ↦ lt-ltb s (t + 1) (omega (arith, less)) ∙ sym (lt-ltb s t less)
        | inr ge ↦ le-ltb s (t + 1) (omega (arith, ge, ne)) ∙ sym (le-ltb s t ge)
      ]

  pub closure_noted : Turns old mid (λ s l. known old s l || (nat_lt s t && has (closure_of (slice_get tags s)) l)) → Turns mid new (λ s l. known mid s l || (nat_eq s t && has closure l)) → Turns old new (λ s l. known old s l || (nat_lt s (t + 1) && has (closure_of (slice_get tags s)) l))
  closure_noted before step = record {
    like = record { tags = step.like.tags ∙ before.like.tags; atoms = step.like.atoms ∙ before.like.atoms };
    says = record {
      each = λ s l hs hl.
          step.says.each s l hs hl
          ∙ (ap (λ b. b || (nat_eq s t && has closure l)) (before.says.each s l (omega (arith, hs, step.like.tags)) (omega (arith, hl, step.like.atoms)))
          ∙ one_more s l (known old s l));
    };
  }
