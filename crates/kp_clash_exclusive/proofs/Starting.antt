-- What a clause marks.
use Rattle.std.proofs.Common.{◌≡◌, ◌≢◌, ◌⊎◌, ◌<◌, ℕ, Bool, true, false, ◌&&◌, ◌||◌, List, [], ◌∷◌, length, nat_eq, nat_lt, inl, inr, refl, sym, ap, ap₂, ◌∙◌, arith}
use Rattle.std.proofs.lemmas.Bool.{and_parts, and_from, or_cases, or_left, or_right, false≢true, eqb-true, eq-eqb}
use Rattle.std.proofs.lemmas.Bool.Decides.{nat_tests}
use Rattle.std.specs.List.{list_all}
use Rattle.kp_base.specs.declared.lit.Lit.{Lit}
use Rattle.kp_base.specs.Planning.{negative, same_lit, code_of, IsAscending, Pairs}
use Rattle.kp_base.specs.Steps.{has}
use Rattle.kp_base.proofs.Lits.{same_lit-true}
use Rattle.kp_clash_exclusive.specs.Paired.{are_both, is_marked, IsSquare, IsWritten}
use Rattle.kp_clash_exclusive.specs.Starting.{not_both, denies, pair_of, all_with, IsMarkedWith}
use Rattle.kp_clash_exclusive.proofs.Greatest.{is_lit}

-- ---- what is marked, step by step

-- the same pairs by another test
pub marked_alike : (n : ℕ) (t u : Pairs) (old new : List Bool) → ((r s : ℕ) → t r s ≡ true → u r s ≡ true) → ((r s : ℕ) → r ≢ s → u r s ≡ true → s < n → r < n → t r s ≡ true) → IsMarkedWith n t old new → IsMarkedWith n u old new
marked_alike n t u old new to from m = record {
  square = m.square;
  sound = λ r s h. elim (or_cases (is_marked n old r s) (t r s) (m.sound r s h)) [ inl e ↦ or_left (is_marked n old r s) (u r s) e | inr e ↦ or_right (is_marked n old r s) (u r s) (to r s e) ];
  kept = m.kept;
  full = λ r s b c ne h. m.full r s b c ne (from r s ne h c b);
}

-- first those of one test, then those of another
pub marked_on : (n : ℕ) (t u v : Pairs) (a b c : List Bool) → ((r s : ℕ) → (t r s || u r s) ≡ true → v r s ≡ true) → ((r s : ℕ) → v r s ≡ true → (t r s || u r s) ≡ true) → IsMarkedWith n t a b → IsMarkedWith n u b c → IsMarkedWith n v a c
marked_on n t u v a b c to from f g = record {
  square = g.square;
  sound = λ r s h. elim (or_cases (is_marked n b r s) (u r s) (g.sound r s h)) [
    | inl e ↦ elim (or_cases (is_marked n a r s) (t r s) (f.sound r s e)) [
      | inl k ↦ or_left (is_marked n a r s) (v r s) k
      | inr k ↦ or_right (is_marked n a r s) (v r s) (to r s (or_left (t r s) (u r s) k))
    ]
    | inr k ↦ or_right (is_marked n a r s) (v r s) (to r s (or_right (t r s) (u r s) k))
  ];
  kept = λ r s h. g.kept r s (f.kept r s h);
  full = λ r s x y ne h. elim (or_cases (t r s) (u r s) (from r s h)) [
    | inl k ↦ g.kept r s (f.full r s x y ne k)
    | inr k ↦ g.full r s x y ne k
  ];
}

-- nothing, where the test holds of no two different numbers
pub marked_none : (n : ℕ) (t : Pairs) (a : List Bool) → IsSquare n a → ((r s : ℕ) → r ≢ s → t r s ≡ true → ⊥) → IsMarkedWith n t a a
marked_none n t a square none = record {
  square = square;
  sound = λ r s h. or_left (is_marked n a r s) (t r s) h;
  kept = λ r s h. h;
  full = λ r s x y ne h. absurd (none r s ne h);
}

-- one pair
pub marked_pair : (n : ℕ) (a b : List Bool) (p q : ℕ) → IsWritten n a b p q true → IsMarkedWith n (pair_of p q) a b
marked_pair n a b p q w = record {
  square = w.square;
  sound = λ r s h. by_sound r s h (are_both p q (r, s)) refl;
  kept = λ r s h. by_kept r s h (are_both p q (r, s)) refl;
  full = λ r s x y ne h. here r s h;
}
  where
    turned : is_marked n b q p ≡ true
    turned = w.square.either_order q p ∙ w.here

    here : (r s : ℕ) → are_both p q (r, s) ≡ true → is_marked n b r s ≡ true
    here r s h = elim (or_cases (nat_eq r p && nat_eq s q) (nat_eq r q && nat_eq s p) h) [
      | inl e ↦ let x = and_parts (nat_eq r p) (nat_eq s q) e in ap₂ (is_marked n b) (eqb-true r p x.0) (eqb-true s q x.1) ∙ w.here
      | inr e ↦ let x = and_parts (nat_eq r q) (nat_eq s p) e in ap₂ (is_marked n b) (eqb-true r q x.0) (eqb-true s p x.1) ∙ turned
    ]

    by_sound : (r s : ℕ) → is_marked n b r s ≡ true → (x : Bool) → are_both p q (r, s) ≡ x → (is_marked n a r s || are_both p q (r, s)) ≡ true
    by_sound r s h true e = or_right (is_marked n a r s) (are_both p q (r, s)) e
    by_sound r s h false e = or_left (is_marked n a r s) (are_both p q (r, s)) (sym (w.others r s e) ∙ h)

    by_kept : (r s : ℕ) → is_marked n a r s ≡ true → (x : Bool) → are_both p q (r, s) ≡ x → is_marked n b r s ≡ true
    by_kept r s h true e = here r s e
    by_kept r s h false e = w.others r s e ∙ h

-- ---- each pair with one atom

-- those with an atom below q
abbrev pub with_below : ℕ → ℕ → Pairs
with_below p q r s = (nat_eq r p && nat_lt s q) || (nat_eq s p && nat_lt r q)

-- an atom is no pair with itself
pub no_pair : (p q r s : ℕ) → p ≡ q → r ≢ s → pair_of p q r s ≡ true → ⊥
no_pair p q r s e ne h = grind (arith, nat_tests)

pub below_none : (p r s : ℕ) → with_below p 0 r s ≡ true → ⊥
below_none p r s h = grind (arith, nat_tests)

pub below_all : (n p r s : ℕ) → r < n → s < n → all_with p r s ≡ true → with_below p n r s ≡ true
below_all n p r s x y h = grind (arith, nat_tests)

pub all_below_with : (n p r s : ℕ) → with_below p n r s ≡ true → all_with p r s ≡ true
all_below_with n p r s h = grind (arith, nat_tests)

-- ---- literals of a denial

-- which atom the literal denies
pub in_both : (l : Lit) (r s : ℕ) → has (not_both r s) l ≡ true → (l.positive ≡ false) × ((l.atom.0 ≡ r) ⊎ (l.atom.0 ≡ s))
in_both l r s h = elim (or_cases (same_lit l (negative r)) (same_lit l (negative s) || false) h) [
  | inl e ↦ let is : l ≡ negative r = same_lit-true l (negative r) e in (ap (λ k. k.positive) is, inl (ap (λ k. k.atom.0) is))
  | inr t ↦ elim (or_cases (same_lit l (negative s)) false t) [
    | inl e ↦ let is : l ≡ negative s = same_lit-true l (negative s) e in (ap (λ k. k.positive) is, inr (ap (λ k. k.atom.0) is))
    | inr e ↦ absurd (false≢true e)
  ]
]

both_has : (l : Lit) (r s : ℕ) → l.positive ≡ false → (l.atom.0 ≡ r) ⊎ (l.atom.0 ≡ s) → has (not_both r s) l ≡ true
both_has l r s n (inl e) = or_left (same_lit l (negative r)) (same_lit l (negative s) || false) (is_lit l (negative r) (ap₂ (λ k b. let x : Lit = record { atom = record { 0 = k }; positive = b } in x) e n))
both_has l r s n (inr e) = or_right (same_lit l (negative r)) (same_lit l (negative s) || false) (or_left (same_lit l (negative s)) false (is_lit l (negative s) (ap₂ (λ k b. let x : Lit = record { atom = record { 0 = k }; positive = b } in x) e n)))

-- negative literals in order have different atoms
apart : (k l : Lit) → k.positive ≡ false → l.positive ≡ false → code_of k < code_of l → k.atom.0 ≢ l.atom.0
apart k l x y lt e = grind (arith, x, y, lt, e)

-- ---- clauses

pub one_denies : (l : Lit) → l.positive ≡ false → (r s : ℕ) → all_with l.atom.0 r s ≡ true → denies (l ∷ []) r s ≡ true
one_denies l n r s h = and_from (has (not_both r s) l) true (both_has l r s n (elim (or_cases (nat_eq r l.atom.0) (nat_eq s l.atom.0) h) [
  | inl e ↦ inl (sym (eqb-true r l.atom.0 e))
  | inr e ↦ inr (sym (eqb-true s l.atom.0 e))
])) refl

pub denies_one : (l : Lit) (r s : ℕ) → denies (l ∷ []) r s ≡ true → (l.positive ≡ false) × (all_with l.atom.0 r s ≡ true)
denies_one l r s h =
    let x = in_both l r s (and_parts (has (not_both r s) l) true h).0 in (
      x.0,
      elim x.1 [
        | inl e ↦ or_left (nat_eq r l.atom.0) (nat_eq s l.atom.0) (eq-eqb r l.atom.0 (sym e))
        | inr e ↦ or_right (nat_eq r l.atom.0) (nat_eq s l.atom.0) (eq-eqb s l.atom.0 (sym e))
      ],
    )

pub two_deny : (k l : Lit) → k.positive ≡ false → l.positive ≡ false → (r s : ℕ) → pair_of k.atom.0 l.atom.0 r s ≡ true → denies (k ∷ l ∷ []) r s ≡ true
two_deny k l m n r s h = elim (or_cases (nat_eq r k.atom.0 && nat_eq s l.atom.0) (nat_eq r l.atom.0 && nat_eq s k.atom.0) h) [
  | inl e ↦ let x = and_parts (nat_eq r k.atom.0) (nat_eq s l.atom.0) e in all_two (inl (sym (eqb-true r k.atom.0 x.0))) (inr (sym (eqb-true s l.atom.0 x.1)))
  | inr e ↦ let x = and_parts (nat_eq r l.atom.0) (nat_eq s k.atom.0) e in all_two (inr (sym (eqb-true s k.atom.0 x.1))) (inl (sym (eqb-true r l.atom.0 x.0)))
]
  where
    all_two : (k.atom.0 ≡ r) ⊎ (k.atom.0 ≡ s) → (l.atom.0 ≡ r) ⊎ (l.atom.0 ≡ s) → denies (k ∷ l ∷ []) r s ≡ true
    all_two x y = and_from (has (not_both r s) k) (has (not_both r s) l && true) (both_has k r s m x) (and_from (has (not_both r s) l) true (both_has l r s n y) refl)

pub deny_two : (k l : Lit) → code_of k < code_of l → (r s : ℕ) → denies (k ∷ l ∷ []) r s ≡ true → (k.positive ≡ false) × (l.positive ≡ false) × (pair_of k.atom.0 l.atom.0 r s ≡ true)
deny_two k l lt r s h =
    let x = and_parts (has (not_both r s) k) (has (not_both r s) l && true) h in
    let a = in_both k r s x.0 in
    let b = in_both l r s (and_parts (has (not_both r s) l) true x.1).0 in
    (a.0, b.0, both a.1 b.1 (apart k l a.0 b.0 lt))
  where
    both : (k.atom.0 ≡ r) ⊎ (k.atom.0 ≡ s) → (l.atom.0 ≡ r) ⊎ (l.atom.0 ≡ s) → k.atom.0 ≢ l.atom.0 → pair_of k.atom.0 l.atom.0 r s ≡ true
    both (inl e) (inl f) ne = absurd (ne (e ∙ sym f))
    both (inl e) (inr f) ne = or_left (nat_eq r k.atom.0 && nat_eq s l.atom.0) (nat_eq r l.atom.0 && nat_eq s k.atom.0) (and_from (nat_eq r k.atom.0) (nat_eq s l.atom.0) (eq-eqb r k.atom.0 (sym e)) (eq-eqb s l.atom.0 (sym f)))
    both (inr e) (inl f) ne = or_right (nat_eq r k.atom.0 && nat_eq s l.atom.0) (nat_eq r l.atom.0 && nat_eq s k.atom.0) (and_from (nat_eq r l.atom.0) (nat_eq s k.atom.0) (eq-eqb r l.atom.0 (sym f)) (eq-eqb s k.atom.0 (sym e)))
    both (inr e) (inr f) ne = absurd (ne (e ∙ sym f))

-- three different literals are no two
pub deny_more : (k l m : Lit) (ls : List Lit) → IsAscending (k ∷ l ∷ m ∷ ls) → (r s : ℕ) → denies (k ∷ l ∷ m ∷ ls) r s ≡ true → ⊥
deny_more k l m ls up r s h =
    let x = and_parts (has (not_both r s) k) (has (not_both r s) l && (has (not_both r s) m && list_all (has (not_both r s)) ls)) h in
    let y = and_parts (has (not_both r s) l) (has (not_both r s) m && list_all (has (not_both r s)) ls) x.1 in
    let a = in_both k r s x.0 in
    let b = in_both l r s y.0 in
    let c = in_both m r s (and_parts (has (not_both r s) m) (list_all (has (not_both r s)) ls) y.1).0 in
    three a.1 b.1 c.1 (apart k l a.0 b.0 up.0) (apart l m b.0 c.0 up.1.0) (apart k m a.0 c.0 (omega (arith, up.0, up.1.0)))
  where
    three : (k.atom.0 ≡ r) ⊎ (k.atom.0 ≡ s) → (l.atom.0 ≡ r) ⊎ (l.atom.0 ≡ s) → (m.atom.0 ≡ r) ⊎ (m.atom.0 ≡ s) → k.atom.0 ≢ l.atom.0 → l.atom.0 ≢ m.atom.0 → k.atom.0 ≢ m.atom.0 → ⊥
    three (inl a) (inl b) c x y z = x (a ∙ sym b)
    three (inr a) (inr b) c x y z = x (a ∙ sym b)
    three (inl a) (inr b) (inl c) x y z = z (a ∙ sym c)
    three (inl a) (inr b) (inr c) x y z = y (b ∙ sym c)
    three (inr a) (inl b) (inl c) x y z = y (b ∙ sym c)
    three (inr a) (inl b) (inr c) x y z = z (a ∙ sym c)

-- a clause that isn't of one literal or two denies no pair
pub deny_none : (c : List Lit) → IsAscending c → 0 < length c → length c ≢ 1 → length c ≢ 2 → (r s : ℕ) → denies c r s ≡ true → ⊥
deny_none [] up lt one two r s h = omega (arith, lt)
deny_none (k ∷ []) up lt one two r s h = one refl
deny_none (k ∷ l ∷ []) up lt one two r s h = two refl
deny_none (k ∷ l ∷ m ∷ ls) up lt one two r s h = deny_more k l m ls up r s h
