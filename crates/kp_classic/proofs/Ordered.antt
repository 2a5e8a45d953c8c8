-- The order of states, by the first fact in which they differ.
use Rattle.std.proofs.Common.{◌≡◌, ◌≢◌, ◌<◌, ◌↔◌, ℕ, Bool, true, false, List, Some, length, slice_get, arith, sym, ap, subst, ◌∙◌, inl, inr, Less, Equal, Greater, Ordering}
use Rattle.std.specs.Ordering.{bool_cmp}
use Rattle.std.proofs.lemmas.Bool.{cases_lt}
use Rattle.std.proofs.lemmas.Option.{slice_get-get_or}
use Rattle.kp_bits.specs.Rows.{DifferFirst}
use Rattle.kp_classic.specs.States.{FactSet, has, IsBefore}
use Rattle.kp_classic.specs.Packed.{bit, set_of}
use Rattle.kp_classic.proofs.States.{has_bit}

-- two states in which one fact isn't alike, and all before it are
pub record Differ (a b : FactSet) (i : ℕ) : Type 0 where
  pub here : has a.hold i ≢ has b.hold i
  pub before : (f : ℕ) → f < i → has a.hold f ≡ has b.hold f

-- of two rows that differ first at a place, so do the states
pub differ_of_rows : (xs ys : List Bool) (i : ℕ) → length xs ≡ length ys → DifferFirst xs ys i → Differ (set_of xs) (set_of ys) i
differ_of_rows xs ys i len d = record { here = here; before = before }
  where
    alike : (f : ℕ) → f < length xs → slice_get xs f ≡ slice_get ys f → has (set_of xs).hold f ≡ has (set_of ys).hold f
    alike f lt e =
        let lt' = subst (λ n. f < n) len lt in
        let one = slice_get-get_or xs f false lt in
        let other = slice_get-get_or ys f false lt' in
        let same : bit xs f ≡ bit ys f = cc in
        has_bit xs f lt ∙ (same ∙ sym (has_bit ys f lt'))

    here : has (set_of xs).hold i ≢ has (set_of ys).hold i
    here e =
        let lt = d.in_range in
        let lt' = subst (λ n. i < n) len lt in
        let same : bit xs i ≡ bit ys i = sym (has_bit xs i lt) ∙ (e ∙ has_bit ys i lt') in
        d.differ (slice_get-get_or xs i false lt ∙ (ap Some same ∙ sym (slice_get-get_or ys i false lt')))

    before : (f : ℕ) → f < i → has (set_of xs).hold f ≡ has (set_of ys).hold f
    before f h = let l = d.in_range in alike f (omega arith) (d.same_before f h)

-- where the first of them has the fact, it isn't before the second
not_before : (a b : FactSet) (i : ℕ) → has a.hold i ≡ true → has b.hold i ≡ false → ((f : ℕ) → f < i → has a.hold f ≡ has b.hold f) → IsBefore a b → ⊥
not_before a b i present absent before r = elim (cases_lt r.fact i) [
  | inl lt ↦ (let e = before r.fact lt in let p = r.present in let q = r.absent in cc)
  | inr ge ↦ elim (cases_lt i r.fact) [
    | inl lt ↦ (let e = r.same_before i lt in cc)
    | inr le ↦ (let same : r.fact ≡ i = omega arith in let q = ap (has a.hold) (sym same) in let p = r.absent in cc)
  ]
]

pub record IsOrder (a b : FactSet) (o : Ordering) : Type 0 where
  pub less : (o ≡ Less) ↔ IsBefore a b
  pub equal : (o ≡ Equal) ↔ (a ≡ b)
  pub greater : (o ≡ Greater) ↔ IsBefore b a

pub ordered : (a b : FactSet) (i : ℕ) → Differ a b i → (p q : Bool) → p ≡ has a.hold i → q ≡ has b.hold i → (o : Ordering) → o ≡ bool_cmp p q → IsOrder a b o
ordered a b i d true true e f o is = absurd (d.here (sym e ∙ f))
ordered a b i d false false e f o is = absurd (d.here (sym e ∙ f))
ordered a b i d false true e f o is = record {
  less = (λ _. record { fact = i; absent = sym e; present = sym f; same_before = d.before }, λ _. is);
  equal = (λ h. absurd (cc), λ h. absurd (d.here (ap (λ (s : FactSet). has s.hold i) h)));
  greater = (λ h. absurd (cc), λ h. absurd (not_before b a i (sym f) (sym e) (λ g l. sym (d.before g l)) h));
}
ordered a b i d true false e f o is = record {
  less = (λ h. absurd (cc), λ h. absurd (not_before a b i (sym e) (sym f) d.before h));
  equal = (λ h. absurd (cc), λ h. absurd (d.here (ap (λ (s : FactSet). has s.hold i) h)));
  greater = (λ _. record { fact = i; absent = sym f; present = sym e; same_before = λ g l. sym (d.before g l) }, λ _. is);
}

-- no state is before itself
pub never_before_itself : (a : FactSet) → IsBefore a a → ⊥
never_before_itself a r = let p = r.present in let q = r.absent in cc
