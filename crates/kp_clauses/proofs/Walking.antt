-- A walk over two ascending clauses tells whether the first is within the second.
use Rattle.std.proofs.Common.{◌≡◌, ◌*◌, not, eqb-true, ◌<◌, ◌≤◌, ◌+◌, ◌-◌, ℕ, zero, suc, Bool, true, false, if◌then◌else◌, sym, ◌∙◌, ap, subst, inl, inr, refl, arith, List, [], ◌∷◌, length, drop, nat_eq}
use Rattle.std.proofs.lemmas.Bool.{cases_order, false≢true, or_cases, or_left, or_right, eq-eqb, false_from_ne_true}
use Rattle.std.proofs.lemmas.Bool.Decides.{nat_tests}
use Rattle.kp_base.specs.declared.lit.Lit.{Lit}
use Rattle.kp_base.specs.Planning.{Member, code_of, same_lit, negated, IsAscending, is_tautology}
use Rattle.kp_base.specs.Implicates.{is_within}
use Rattle.kp_base.specs.Steps.{has}
use Rattle.kp_base.proofs.Ascending.{code_of-injective, tail_ascends}
use Rattle.kp_base.proofs.Lits.{same_lit-true, same_lit-refl, member-has, negated-negated}
use Rattle.kp_base.proofs.Lists.{any_member, bool_same}
use Rattle.kp_clauses.proofs.Within.{tautology_from, other}
use Rattle.kp_clauses.specs.Walked.{walked, has_pair}
use Rattle.kp_clauses.proofs.Sets.{begins_outside, later, least}

-- a literal before all of a clause tells nothing
pub skipped : (y : Lit) (c d : List Lit) → ((a : Lit) → Member c a → code_of y < code_of a) → is_within c (y ∷ d) ≡ is_within c d
skipped y [] d f = refl
skipped y (x ∷ c) d f =
    let lt = f x (inl refl) in
    let other : same_lit x y ≡ false = false_from_ne_true (same_lit x y) (λ e. let same = ap code_of (same_lit-true x y e) in omega arith) in
    let rest = skipped y c d (λ a m. f a (inr m)) in
    rw (other, rest) refl

-- the same first literal may go from both
alike : (x : Lit) (c d : List Lit) → IsAscending (x ∷ c) → is_within (x ∷ c) (x ∷ d) ≡ is_within c d
alike x c d s = rw (same_lit-refl x, skipped x c d (later x c s)) refl

-- a literal that stands before the first one may go
passed : (x y : Lit) (c d : List Lit) → IsAscending (x ∷ c) → code_of y < code_of x → is_within (x ∷ c) (y ∷ d) ≡ is_within (x ∷ c) d
passed x y c d s lt = skipped y (x ∷ c) d (λ a m. elim m [ inl e ↦ let same = ap code_of e in omega arith | inr r ↦ let after = later x c s a r in omega arith ])

-- a clause with more literals isn't within another
pub longer : (c d : List Lit) → IsAscending c → IsAscending d → length d < length c → is_within c d ≡ false
longer [] d s t lt = absurd (omega arith)
longer (x ∷ c) [] s t lt = refl
longer (x ∷ c) (y ∷ d) s t lt = elim (cases_order (code_of x) (code_of y)) [
  | inl same ↦ subst (λ z. is_within (x ∷ c) (z ∷ d) ≡ false) (code_of-injective x y same) (alike x c d s ∙ longer c d (tail_ascends x c s) (tail_ascends y d t) (omega arith))
  | inr (inl before) ↦ begins_outside (x ∷ c) (y ∷ d) x y refl refl t before
  | inr (inr after) ↦ passed x y c d s after ∙ longer (x ∷ c) d s (tail_ascends y d t) (omega arith)
]

-- a walk that may pass over as many as the second has more
pub walked_is : (n : ℕ) (c d : List Lit) → IsAscending c → IsAscending d → length d ≡ n + length c → walked n c d ≡ is_within c d
walked_is n [] d s t long = refl
walked_is n (x ∷ c) [] s t long = refl
walked_is n (x ∷ c) (y ∷ d) s t long = elim (cases_order (code_of x) (code_of y)) [
  | inl same ↦
      let rest = walked_is n c d (tail_ascends x c s) (tail_ascends y d t) (omega arith) in
      let here : is_within (x ∷ c) (y ∷ d) ≡ is_within c d = subst (λ z. is_within (x ∷ c) (z ∷ d) ≡ is_within c d) (code_of-injective x y same) (alike x c d s) in
      step-same same rest ∙ sym here
  | inr (inl before) ↦ step-before before ∙ sym (begins_outside (x ∷ c) (y ∷ d) x y refl refl t before)
  | inr (inr after) ↦ elim (cases_order n 0) [
    | inl none ↦ step-none after none ∙ sym (passed x y c d s after ∙ longer (x ∷ c) d s (tail_ascends y d t) (omega arith))
    | inr (inl bad) ↦ absurd (omega arith)
    | inr (inr some) ↦ step-after after some ∙ (walked_is (n - 1) (x ∷ c) d s (tail_ascends y d t) (omega arith) ∙ sym (passed x y c d s after))
  ]
]
  where
    step-same : code_of x ≡ code_of y → walked n c d ≡ is_within c d → walked n (x ∷ c) (y ∷ d) ≡ is_within c d
    step-same same rest = grind (arith, nat_tests)

    step-before : code_of x < code_of y → walked n (x ∷ c) (y ∷ d) ≡ false
    step-before before = grind (arith, nat_tests)

    step-none : code_of y < code_of x → n ≡ 0 → walked n (x ∷ c) (y ∷ d) ≡ false
    step-none after none = grind (arith, nat_tests)

    step-after : code_of y < code_of x → 0 < n → walked n (x ∷ c) (y ∷ d) ≡ walked (n - 1) (x ∷ c) d
    step-after after some = grind (arith, nat_tests)

past : (j : ℕ) (d : List Lit) → length d ≤ j → drop j d ≡ []
past zero [] le = refl
past (suc j) [] le = refl
past zero (y ∷ d) le = absurd (omega arith)
past (suc j) (y ∷ d) le = past j d (omega arith)

-- a walk at the end of the second list: all of the first must be seen, too
pub ended : (n i : ℕ) (c : List Lit) → i ≤ length c → walked n (drop i c) [] ≡ nat_eq i (length c)
ended n zero [] le = grind (arith, nat_tests)
ended n (suc i) [] le = absurd (omega arith)
ended n zero (x ∷ c) le = grind (arith, nat_tests)
ended n (suc i) (x ∷ c) le = let rest = ended n i c (omega arith) in grind (arith, nat_tests)

pub ended_at : (n i j : ℕ) (c d : List Lit) → i ≤ length c → length d ≤ j → walked n (drop i c) (drop j d) ≡ nat_eq i (length c)
ended_at n i j c d le past_all = rw (past j d past_all) (ended n i c le)

-- ---- literals side by side

-- two literals of one atom are each other's negation, if they aren't the same
pub turned : (x y : Lit) → x.atom.0 ≡ y.atom.0 → code_of x < code_of y → y ≡ negated x
turned x y same lt = code_of-injective y (negated x) (codes x.positive y.positive x.atom.0 y.atom.0 same lt)
  where
    codes : (p q : Bool) (a b : ℕ) → a ≡ b → 2 * a + (if p then 0 else 1) < 2 * b + (if q then 0 else 1) → 2 * b + (if q then 0 else 1) ≡ 2 * a + (if not p then 0 else 1)
    codes true true a b e lt' = absurd (omega arith)
    codes true false a b e lt' = omega arith
    codes false true a b e lt' = absurd (omega arith)
    codes false false a b e lt' = absurd (omega arith)

-- a literal's negation is next to it in order of code
pub near : (x y z : Lit) → z ≡ negated x → code_of x < code_of y → code_of y ≤ code_of z → x.atom.0 ≡ y.atom.0
near x y z e lt le = codes x.positive y.positive x.atom.0 y.atom.0 lt (subst (λ (w : Lit). code_of y ≤ code_of w) e le)
  where
    codes : (p q : Bool) (a b : ℕ) → 2 * a + (if p then 0 else 1) < 2 * b + (if q then 0 else 1) → 2 * b + (if q then 0 else 1) ≤ 2 * a + (if not p then 0 else 1) → a ≡ b
    codes true true a b lt' le' = absurd (omega arith)
    codes true false a b lt' le' = omega arith
    codes false true a b lt' le' = absurd (omega arith)
    codes false false a b lt' le' = absurd (omega arith)

pair_from : (x : Lit) (c : List Lit) → has_pair x c ≡ true → IsAscending (x ∷ c) → is_tautology (x ∷ c) ≡ true
pair_from x [] h s = absurd (false≢true h)
pair_from x (y ∷ c) h s = elim (or_cases (nat_eq x.atom.0 y.atom.0) (has_pair y c) h) [
  | inl e ↦ tautology_from (x ∷ y ∷ c) x (inl refl) (inr (inl (turned x y (eqb-true x.atom.0 y.atom.0 e) s.0)))
  | inr r ↦
      let z = any_member (λ l. has (y ∷ c) (negated l)) (y ∷ c) (pair_from y c r s.1) in
      tautology_from (x ∷ y ∷ c) z.0 (inr z.1) (inr (member-has (y ∷ c) (negated z.0) z.2))
]

first_pair : (x : Lit) (c : List Lit) (z : Lit) → IsAscending (x ∷ c) → Member c z → z ≡ negated x → has_pair x c ≡ true
first_pair x [] z s m e = absurd m
first_pair x (y ∷ c) z s m e = or_left (nat_eq x.atom.0 y.atom.0) (has_pair y c) (eq-eqb x.atom.0 y.atom.0 (near x y z e s.0 (least y c s.1 z m)))

to_pair : (x : Lit) (c : List Lit) (z : Lit) → IsAscending (x ∷ c) → Member (x ∷ c) z → Member (x ∷ c) (negated z) → has_pair x c ≡ true
to_pair x [] z s m n = elim m [
  | inl e ↦ elim n [ inl f ↦ absurd (other z (sym e ∙ f)) | inr bad ↦ absurd bad ]
  | inr bad ↦ absurd bad
]
to_pair x (y ∷ c) z s m n = elim m [
  | inl e ↦ elim n [
    | inl f ↦ absurd (other z (sym e ∙ f))
    | inr k ↦ first_pair x (y ∷ c) (negated z) s k (ap negated (sym e))
  ]
  | inr r ↦ elim n [
    | inl f ↦ first_pair x (y ∷ c) z s r (sym (negated-negated z) ∙ ap negated (sym f))
    | inr k ↦ or_right (nat_eq x.atom.0 y.atom.0) (has_pair y c) (to_pair y c z s.1 r k)
  ]
]

pub pair_is : (x : Lit) (c : List Lit) → IsAscending (x ∷ c) → has_pair x c ≡ is_tautology (x ∷ c)
pair_is x c s = bool_same (has_pair x c) (is_tautology (x ∷ c)) (λ h. pair_from x c h s) (λ h. let z = any_member (λ l. has (x ∷ c) (negated l)) (x ∷ c) h in to_pair x c z.0 s z.1 (member-has (x ∷ c) (negated z.0) z.2))
