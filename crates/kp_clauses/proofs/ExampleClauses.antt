-- Resolvents and stores that compute, and a list of clauses that meets the premises of the law.
use Rattle.std.proofs.Common.{◌≡◌, true, false, ◌||◌, List, [], ◌∷◌, ℕ, Some, None, refl, sym, ap, subst, inl, inr, arith}
use Rattle.std.proofs.lemmas.Bool.{false≢true, true≢false}
use Rattle.kp_base.specs.declared.lit.Lit.{Lit}
use Rattle.kp_base.specs.Planning.{Member, positive, negative, IsAscending, is_tautology, formula_of, IsPrime}
use Rattle.kp_base.specs.Steps.{has}
use Rattle.kp_base.specs.Implicates.{is_within}
use Rattle.kp_base.proofs.Lits.{member-has}
use Rattle.kp_clauses.specs.Resolved.{resolved, resolvent_on}
use Rattle.kp_clauses.specs.Stored.{subsumed, with_clause}
use Rattle.kp_clauses.specs.Saturated.{IsSaturated, IsSaturation}
use Rattle.kp_clauses.proofs.Saturated.{saturation_exact}

abbrev either : List Lit
either = positive 0 ∷ positive 1 ∷ []

abbrev one_is_false : List Lit
one_is_false = negative 0 ∷ negative 1 ∷ []

abbrev then_third : List Lit
then_third = negative 0 ∷ positive 2 ∷ []

-- a or b, and where a is so is c: so b or c
first_resolvent : resolvent_on (positive 0) either then_third ≡ Some (positive 1 ∷ positive 2 ∷ [])
first_resolvent = refl

-- a or b, and not both: nothing
no_resolvent : resolvent_on (positive 0) either one_is_false ≡ None
no_resolvent = refl

-- what holds a stored clause isn't stored, and what is held goes
stored : with_clause (with_clause (with_clause [] either) (positive 0 ∷ positive 1 ∷ positive 2 ∷ [])) (positive 0 ∷ []) ≡ (positive 0 ∷ []) ∷ []
stored = refl

-- ---- exactly one of two is saturated

abbrev one_of_two : List (List Lit)
one_of_two = either ∷ one_is_false ∷ []

no_positive : (p : ℕ) → has one_is_false (positive p) ≡ true → ⊥
no_positive p h = elim (member-has one_is_false (positive p) h) [
  | inl e ↦ false≢true (ap (λ (x : Lit). x.positive) e)
  | inr r ↦ elim r [ inl e ↦ false≢true (ap (λ (x : Lit). x.positive) e) | inr bad ↦ bad ]
]

no_negative : (p : ℕ) → has either (negative p) ≡ true → ⊥
no_negative p h = elim (member-has either (negative p) h) [
  | inl e ↦ true≢false (ap (λ (x : Lit). x.positive) e)
  | inr r ↦ elim r [ inl e ↦ true≢false (ap (λ (x : Lit). x.positive) e) | inr bad ↦ bad ]
]

abbrev IsDone : List Lit → List Lit → ℕ → Type 0
IsDone c d p = (is_tautology (resolved c d (positive p)) || subsumed one_of_two (resolved c d (positive p))) ≡ true

only_tautologies : (p : ℕ) → has either (positive p) ≡ true → IsDone either one_is_false p
only_tautologies p h = elim (member-has either (positive p) h) [
  | inl e ↦ subst (IsDone either one_is_false) (ap (λ (x : Lit). x.atom.0) e) refl
  | inr r ↦ elim r [ inl e ↦ subst (IsDone either one_is_false) (ap (λ (x : Lit). x.atom.0) e) refl | inr bad ↦ absurd bad ]
]

one_of_two_saturated : IsSaturated one_of_two
one_of_two_saturated = record {
  each = λ p c d in-c in-d hc hd. elim in-c [
    | inl ec ↦ elim in-d [
      | inl ed ↦ absurd (no_negative p (subst (λ z. has z (negative p) ≡ true) (sym ed) hd))
      | inr r ↦ elim r [
        | inl ed ↦ subst (λ z. IsDone z d p) ec (subst (λ z. IsDone either z p) ed (only_tautologies p (subst (λ z. has z (positive p) ≡ true) (sym ec) hc)))
        | inr bad ↦ absurd bad
      ]
    ]
    | inr r ↦ elim r [
      | inl ec ↦ absurd (no_positive p (subst (λ z. has z (positive p) ≡ true) (sym ec) hc))
      | inr bad ↦ absurd bad
    ]
  ];
}

-- what holds of both holds of each
each_of_two : (P : List Lit → Type 0) → P either → P one_is_false → (c : List Lit) → Member one_of_two c → P c
each_of_two P h k c m = elim m [
  | inl e ↦ subst P e h
  | inr r ↦ elim r [ inl e ↦ subst P e k | inr bad ↦ absurd bad ]
]

saturation : IsSaturation 2 one_of_two
saturation = record {
  of_atoms = record { clauses = refl; closed = refl };
  sets = each_of_two IsAscending (omega arith, tt) (omega arith, tt);
  proper = each_of_two (λ c. is_tautology c ≡ false) refl refl;
  saturated = one_of_two_saturated;
  reduced = λ c d in-c in-d.
      each_of_two (λ c. is_within c d ≡ true → is_within d c ≡ true)
      (each_of_two (λ d. is_within either d ≡ true → is_within d either ≡ true) (λ h. h) (λ h. absurd (false≢true h)) d in-d)
      (each_of_two (λ d. is_within one_is_false d ≡ true → is_within d one_is_false ≡ true) (λ h. absurd (false≢true h)) (λ h. h) d in-d)
      c in-c;
}

-- so not both is a prime implicate
one_is_false_is_prime : IsPrime (formula_of one_of_two) one_is_false
one_is_false_is_prime = (saturation_exact 2 one_of_two saturation one_is_false).0 (inr (inl refl))
