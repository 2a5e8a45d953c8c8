-- Tags with one literal more, and what they leave undecided.
use Rattle.std.proofs.Common.{◌≡◌, ◌<◌, ◌≤◌, nat_lt, ℕ, zero, suc, Bool, true, false, if◌then◌else◌, List, refl, sym, ◌∙◌, inl, inr, arith, lt-ltb}
use Rattle.std.proofs.lemmas.Bool.{and_parts, and_from, or_left, or_right, or_cases, cases_eq}
use Rattle.std.specs.List.{list_all}
use Rattle.kp_base.specs.declared.lit.Lit.{Lit}
use Rattle.kp_base.specs.Planning.{positive, negative, same_lit, with_lit, State, holds, are_below}
use Rattle.kp_base.specs.Lit.{has}
use Rattle.kp_base.proofs.Lits.{same_lit-refl}
use Rattle.kp_base.proofs.Sets.{any-with_lit, all-with_lit}
use Rattle.kp_primes_first_model.specs.Known.{is_decided, undecided}

-- a state satisfies the tag with one literal more where it satisfies both
pub more_met : (s : State) (l : Lit) (tag : List Lit) → list_all (holds s) tag ≡ true → holds s l ≡ true → list_all (holds s) (with_lit l tag) ≡ true
more_met s l tag h k = all-with_lit (holds s) l tag ∙ and_from (list_all (holds s) tag) (holds s l) h k

pub more_parts : (s : State) (l : Lit) (tag : List Lit) → list_all (holds s) (with_lit l tag) ≡ true → (list_all (holds s) tag ≡ true) × (holds s l ≡ true)
more_parts s l tag h = and_parts (list_all (holds s) tag) (holds s l) (sym (all-with_lit (holds s) l tag) ∙ h)

pub more_below : (n : ℕ) (l : Lit) (tag : List Lit) → are_below n tag ≡ true → l.atom.0 < n → are_below n (with_lit l tag) ≡ true
more_below n l tag h lt = all-with_lit (λ m. nat_lt m.atom.0 n) l tag ∙ and_from (are_below n tag) (nat_lt l.atom.0 n) h (lt-ltb l.atom.0 n lt)

-- ---- what is undecided

-- what was decided stays so
stays : (l : Lit) (tag : List Lit) (p : ℕ) → is_decided tag p ≡ true → is_decided (with_lit l tag) p ≡ true
stays l tag p h = elim (or_cases (has tag (positive p)) (has tag (negative p)) h) [
  | inl e ↦ or_left (has (with_lit l tag) (positive p)) (has (with_lit l tag) (negative p)) (any-with_lit (same_lit (positive p)) l tag ∙ or_left (has tag (positive p)) (same_lit (positive p) l) e)
  | inr e ↦ or_right (has (with_lit l tag) (positive p)) (has (with_lit l tag) (negative p)) (any-with_lit (same_lit (negative p)) l tag ∙ or_left (has tag (negative p)) (same_lit (negative p) l) e)
]

-- the literal's atom is decided
decides : (p : ℕ) (b : Bool) (tag : List Lit) → is_decided (with_lit (record { atom = record { 0 = p }; positive = b }) tag) p ≡ true
decides p true tag = or_left (has (with_lit (positive p) tag) (positive p)) (has (with_lit (positive p) tag) (negative p)) (any-with_lit (same_lit (positive p)) (positive p) tag ∙ or_right (has tag (positive p)) (same_lit (positive p) (positive p)) (same_lit-refl (positive p)))
decides p false tag = or_right (has (with_lit (negative p) tag) (positive p)) (has (with_lit (negative p) tag) (negative p)) (any-with_lit (same_lit (negative p)) (negative p) tag ∙ or_right (has tag (negative p)) (same_lit (negative p) (negative p)) (same_lit-refl (negative p)))

weight_less : (b c : Bool) → (b ≡ true → c ≡ true) → (if c then 0 else 1) ≤ (if b then 0 else 1)
weight_less true c f = rw (f refl) (omega arith)
weight_less false true f = omega arith
weight_less false false f = omega arith

no_more : (l : Lit) (tag : List Lit) (n : ℕ) → undecided (with_lit l tag) n ≤ undecided tag n
no_more l tag zero = omega arith
no_more l tag (suc n) =
    let a = no_more l tag n in
    let b = weight_less (is_decided tag n) (is_decided (with_lit l tag) n) (stays l tag n) in
    omega arith

-- fewer atoms are undecided where one of them comes to be decided
pub falls : (p : ℕ) (b : Bool) (tag : List Lit) (n : ℕ) → p < n → is_decided tag p ≡ false → undecided (with_lit (record { atom = record { 0 = p }; positive = b }) tag) n < undecided tag n
falls p b tag zero lt off = absurd (omega arith)
falls p b tag (suc n) lt off = elim (cases_eq p n) [
  | inl e ↦
      let l : Lit = record { atom = record { 0 = p }; positive = b } in
      let a = no_more l tag n in
      rw (← e, off, decides p b tag) (let a' = rw (← e) at a in omega arith)
  | inr ne ↦
      let l : Lit = record { atom = record { 0 = p }; positive = b } in
      let a = falls p b tag n (omega arith) off in
      let c = weight_less (is_decided tag n) (is_decided (with_lit l tag) n) (stays l tag n) in
      omega arith
]
