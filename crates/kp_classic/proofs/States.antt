-- States as rows of truth values.
use Rattle.std.proofs.Common.{◌≡◌, ◌≢◌, ◌<◌, ◌≤◌, ◌+◌, ℕ, Bool, true, false, not, ◌&&◌, ◌||◌, List, [], ◌∷◌, ◌++◌, Some, length, set, replicate, length-set, get_or-set_same, get_or-set_other, filter, nat_eq, slice_get, arith, refl, sym, ap, subst, ◌∙◌, inl, inr}
use Rattle.std.specs.List.{range_with_len}
use Rattle.std.proofs.lemmas.Bool.{eqb-true, eq-eqb, ne_eqb, cases_eq, cases_lt}
use Rattle.std.proofs.lemmas.List.{get_or-replicate, length-replicate}
use Rattle.std.proofs.lemmas.List.Elements.{filter-append}
use Rattle.std.proofs.lemmas.Option.{slice_get-get_or}
use Rattle.kp_base.specs.Lists.{Member, only_if}
use Rattle.kp_base.proofs.Places.{places_more}
use Rattle.kp_base.proofs.Lists.{bool_same, any_from, any_member, range_there, member_filter, filter_member}
use Rattle.kp_base.proofs.Members.{range_only}
use Rattle.kp_classic.specs.States.{FactSet, has, holding_among, fact_set_of}
use Rattle.kp_classic.specs.Packed.{bit, set_of}

-- ---- the facts of a list that pass a test

pub has_those : (n : ℕ) (p : ℕ → Bool) (f : ℕ) → f < n → has (holding_among n p) f ≡ p f
has_those n p f lt = bool_same (has (holding_among n p) f) (p f) forth back
  where
    forth : has (holding_among n p) f ≡ true → p f ≡ true
    forth h =
        let r = any_member (nat_eq f) (holding_among n p) h in
        subst (λ x. p x ≡ true) (sym (eqb-true f r.0 r.2)) (filter_member p (range_with_len 0 n) r.0 r.1).1

    back : p f ≡ true → has (holding_among n p) f ≡ true
    back h = any_from (nat_eq f) (holding_among n p) f (member_filter p (range_with_len 0 n) f (range_there 0 n f (omega arith) (omega (arith, lt))) h) (eq-eqb f f refl)

-- each of them is below the number
pub those_below : (n : ℕ) (p : ℕ → Bool) (f : ℕ) → Member (holding_among n p) f → f < n
those_below n p f m = let lt = range_only 0 n f (filter_member p (range_with_len 0 n) f m).0 in omega (arith, lt)

-- no fact past the number holds
pub has_past : (n : ℕ) (p : ℕ → Bool) (f : ℕ) → n ≤ f → has (holding_among n p) f ≡ false
has_past n p f le = none (has (holding_among n p) f) (λ h. let r = any_member (nat_eq f) (holding_among n p) h in let e = eqb-true f r.0 r.2 in let lt = those_below n p r.0 r.1 in absurd (omega (arith, e, lt, le)))
  where
    none : (b : Bool) → (b ≡ true → ⊥) → b ≡ false
    none true h = absurd (h refl)
    none false h = refl

-- one test in place of another
pub those_alike : (n : ℕ) (p q : ℕ → Bool) → ((f : ℕ) → f < n → p f ≡ q f) → holding_among n p ≡ holding_among n q
those_alike n p q same = go (range_with_len 0 n) (λ f m. same f (let r = range_only 0 n f m in omega (arith, r)))
  where
    go : (xs : List ℕ) → ((f : ℕ) → Member xs f → p f ≡ q f) → filter p xs ≡ filter q xs
    go [] h = refl
    go (x ∷ xs) h = rw (h x (inl refl), go xs (λ f m. h f (inr m))) refl

-- a state in which the facts hold that pass a test is the state of that test
pub is_state : (s : FactSet) (n : ℕ) (p : ℕ → Bool) → s ≡ fact_set_of s.facts (has s.hold) → s.facts ≡ n → ((f : ℕ) → f < n → has s.hold f ≡ p f) → s ≡ fact_set_of n p
is_state s n p e len each = e ∙ (ap (λ m. fact_set_of m (has s.hold)) len ∙ ap (λ (fs : List ℕ). record { facts = n; hold = fs }) (those_alike n (has s.hold) p each))

-- ---- rows

pub has_bit : (bits : List Bool) (f : ℕ) → f < length bits → has (set_of bits).hold f ≡ bit bits f
has_bit bits f lt = has_those (length bits) (bit bits) f lt

-- the list of facts is that of its own test
pub set_is : (bits : List Bool) → set_of bits ≡ fact_set_of (length bits) (has (set_of bits).hold)
set_is bits = ap (λ (fs : List ℕ). record { facts = length bits; hold = fs }) (those_alike (length bits) (bit bits) (has (set_of bits).hold) (λ f lt. sym (has_bit bits f lt)))

pub holds_is : (bits : List Bool) (f : ℕ) (b : Bool) → f < length bits → slice_get bits f ≡ Some b → b ≡ has (set_of bits).hold f
holds_is bits f b lt h =
    let e : b ≡ bit bits f = cc (h, slice_get-get_or bits f false lt) in
    e ∙ sym (has_bit bits f lt)

pub empty_holds : (bits : List Bool) (n : ℕ) → bits ≡ replicate n false → (f : ℕ) → has (set_of bits).hold f ≡ false
empty_holds bits n e f = elim (cases_lt f (length bits)) [
  | inl lt ↦ has_bit bits f lt ∙ (ap (λ b. bit b f) e ∙ get_or-replicate n f false false (subst (λ m. f < m) (ap length e ∙ length-replicate n false) lt))
  | inr ge ↦ has_past (length bits) (bit bits) f ge
]

-- ---- one bit

same_place : (bits : List Bool) (i : ℕ) (v : Bool) → i < length bits → has (set_of (set bits i v)).hold i ≡ v
same_place bits i v lt = has_bit (set bits i v) i (subst (λ n. i < n) (sym (length-set bits i v)) lt) ∙ get_or-set_same bits i v false lt

other_place : (bits : List Bool) (i : ℕ) (v : Bool) (f : ℕ) → f < length bits → f ≢ i → has (set_of (set bits i v)).hold f ≡ has (set_of bits).hold f
other_place bits i v f lf ne =
    has_bit (set bits i v) f (subst (λ n. f < n) (sym (length-set bits i v)) lf)
    ∙ (get_or-set_other bits i f v false ne ∙ sym (has_bit bits f lf))

pub set_holds : (bits : List Bool) (i f : ℕ) → i < length bits → f < length bits → has (set_of (set bits i true)).hold f ≡ (nat_eq f i || has (set_of bits).hold f)
set_holds bits i f lt lf = elim (cases_eq f i) [
  | inl e ↦ subst (λ j. has (set_of (set bits i true)).hold j ≡ true) (sym e) (same_place bits i true lt) ∙ sym (ap (λ b. b || has (set_of bits).hold f) (eq-eqb f i e))
  | inr ne ↦ other_place bits i true f lf ne ∙ sym (ap (λ b. b || has (set_of bits).hold f) (ne_eqb f i ne))
]

pub clear_holds : (bits : List Bool) (i f : ℕ) → i < length bits → f < length bits → has (set_of (set bits i false)).hold f ≡ (has (set_of bits).hold f && not (nat_eq f i))
clear_holds bits i f lt lf = elim (cases_eq f i) [
  | inl e ↦ subst (λ j. has (set_of (set bits i false)).hold j ≡ false) (sym e) (same_place bits i false lt) ∙ sym (ap (λ b. has (set_of bits).hold f && not b) (eq-eqb f i e) ∙ and_false (has (set_of bits).hold f))
  | inr ne ↦ other_place bits i false f lf ne ∙ sym (ap (λ b. has (set_of bits).hold f && not b) (ne_eqb f i ne) ∙ and_true (has (set_of bits).hold f))
]
  where
    and_false : (b : Bool) → (b && false) ≡ false
    and_false true = refl
    and_false false = refl

    and_true : (b : Bool) → (b && true) ≡ b
    and_true true = refl
    and_true false = refl

-- ---- one fact more

pub those_more : (k : ℕ) (p : ℕ → Bool) → holding_among (k + 1) p ≡ holding_among k p ++ only_if (p k) (k ∷ [])
those_more k p = ap (filter p) (places_more k) ∙ filter-append p (range_with_len 0 k) (k ∷ [])
