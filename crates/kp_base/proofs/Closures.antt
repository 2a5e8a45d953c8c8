-- The closure over the states of the first n atoms is the closure over all states.
use Rattle.std.proofs.Common.{◌≡◌, ℕ, Bool, true, false, not, ◌&&◌, cond, List, [], ◌∷◌, refl, sym, ap, subst, map, ◌∙◌, inl, inr, filter, nat_lt, ◌<◌, ◌≤◌, ◌+◌, ◌*◌, zero, suc, arith, replicate, slice_index_or}
use Rattle.std.specs.List.{list_all, list_any, flat_map, range_with_len}
use Rattle.std.proofs.lemmas.Bool.{and_parts, and_from, lt-ltb, ltb-true}
use Rattle.kp_base.specs.declared.lit.Lit.{Lit}
use Rattle.kp_base.specs.declared.lit.AtomId.{AtomId}
use Rattle.kp_base.specs.declared.ground.Initial.{Initial}
use Rattle.kp_base.specs.Lists.{Member, signed, choices}
use Rattle.kp_base.specs.Lit.{positive, negative, code_of}
use Rattle.kp_base.specs.LitSet.{IsAscending}
use Rattle.kp_base.specs.Steps.{State, holds, is_model, SameBelow}
use Rattle.kp_base.proofs.Members.{range_only}
use Rattle.kp_base.proofs.Lists.{any_alike, all_alike, all_member, filter_member, member_map, flat_member, all_from, member_flat_map, member_filter}
pub use Rattle.kp_base.proofs.Lists.{range_there}
use Rattle.kp_base.proofs.Lits.{has-member, member-has}
use Rattle.kp_base.specs.Closure.{literals, state_of, states, models_of, closure, IsClosureExact}
use Rattle.kp_base.specs.Implicates.{are_below, IsOfAtoms}

-- ---- literals of the first n atoms read these alone

abbrev pub below : ℕ → Lit → Bool
below n l = nat_lt l.atom.0 n

pub holds_same : (n : ℕ) (s t : State) → SameBelow n s t → (l : Lit) → below n l ≡ true → holds s l ≡ holds t l
holds_same n s t same l h = ap (signed l.positive) (same l.atom.0 (ltb-true l.atom.0 n h))

pub all_same : (n : ℕ) (s t : State) → SameBelow n s t → (ls : List Lit) → are_below n ls ≡ true → list_all (holds s) ls ≡ list_all (holds t) ls
all_same n s t same ls h = all_alike (holds s) (holds t) ls (λ l m. holds_same n s t same l (all_member (below n) ls l m h))

-- ---- the literals of the first n atoms

literal_there : (n : ℕ) (l : Lit) → l.atom.0 < n → Member (literals n) l
literal_there n l lt = member_flat_map (λ p. positive p ∷ negative p ∷ []) (range_with_len 0 n) l.atom.0 l (range_there 0 n l.atom.0 (omega arith) (omega arith)) (pick l.positive)
  where
    pick : (sign : Bool) → Member (positive l.atom.0 ∷ negative l.atom.0 ∷ []) (record { atom = l.atom; positive = sign })
    pick true = inl refl
    pick false = inr (inl refl)

literal_below : (n : ℕ) (l : Lit) → Member (literals n) l → l.atom.0 < n
literal_below n l m =
    let r = flat_member (λ p. positive p ∷ negative p ∷ []) (range_with_len 0 n) l m in
    let lt = range_only 0 n r.0 r.1 in
    subst (λ k. k < n) (of_atom r.0 l r.2) (omega arith)
  where
    of_atom : (p : ℕ) (l : Lit) → Member (positive p ∷ negative p ∷ []) l → p ≡ l.atom.0
    of_atom p l m = elim m [
      | inl e ↦ ap (λ (l : Lit). l.atom.0) e
      | inr r ↦ elim r [ inl e ↦ ap (λ (l : Lit). l.atom.0) e | inr none ↦ absurd none ]
    ]

-- ---- ascending

-- codes from c on, each above those before it
abbrev Rising : ℕ → List Lit → Type 0
Rising c [] = Unit {0}
Rising c (x ∷ xs) = (c ≤ code_of x) × Rising (1 + code_of x) xs

rising_weaker : (c d : ℕ) (xs : List Lit) → d ≤ c → Rising c xs → Rising d xs
rising_weaker c d [] le r = tt
rising_weaker c d (x ∷ xs) le r = let h = r.0 in (omega arith, r.1)

rising_filter : (q : Lit → Bool) (c : ℕ) (xs : List Lit) → Rising c xs → Rising c (filter q xs)
rising_filter q c [] r = tt
rising_filter q c (x ∷ xs) r = pick (q x) (rising_filter q (1 + code_of x) xs r.1)
  where
    pick : (t : Bool) → Rising (1 + code_of x) (filter q xs) → Rising c (cond t (x ∷ filter q xs) (filter q xs))
    pick true rest = (r.0, rest)
    pick false rest = let h = r.0 in rising_weaker (1 + code_of x) c (filter q xs) (omega arith) rest

rising_ascends : (c : ℕ) (xs : List Lit) → Rising c xs → IsAscending xs
rising_ascends c [] r = tt
rising_ascends c (x ∷ []) r = tt
rising_ascends c (x ∷ y ∷ xs) r = let h = r.1.0 in (omega arith, rising_ascends (1 + code_of x) (y ∷ xs) r.1)

literals_rise : (a n : ℕ) → Rising (2 * a) (flat_map (λ p. positive p ∷ negative p ∷ []) (range_with_len a n))
literals_rise a zero = tt
literals_rise a (suc n) =
    (omega arith, (omega arith, rising_weaker (2 * (a + 1)) (1 + (2 * a + 1)) (flat_map (λ p. positive p ∷ negative p ∷ []) (range_with_len (a + 1) n)) (omega arith) (literals_rise (a + 1) n)))

-- ---- the states of the first n atoms

-- the truth of n atoms from number a on
abbrev bits : State → ℕ → ℕ → List Bool
bits s a zero = []
bits s a (suc n) = s a ∷ bits s (a + 1) n

bits_there : (s : State) (a n : ℕ) → Member (choices (replicate n (true ∷ false ∷ []))) (bits s a n)
bits_there s a zero = inl refl
bits_there s a (suc n) =
    member_flat_map (λ b. map (λ rest. b ∷ rest) (choices (replicate n (true ∷ false ∷ [])))) (true ∷ false ∷ []) (s a) (s a ∷ bits s (a + 1) n)
    (either (s a))
    (member_map (λ rest. s a ∷ rest) (choices (replicate n (true ∷ false ∷ []))) (bits s (a + 1) n) (bits_there s (a + 1) n))
  where
    either : (b : Bool) → Member (true ∷ false ∷ []) b
    either true = inl refl
    either false = inr (inl refl)

bits_say : (s : State) (a n k : ℕ) → k < n → slice_index_or (bits s a n) k false ≡ s (a + k)
bits_say s a zero k lt = absurd (omega arith)
bits_say s a (suc n) zero lt = ap s (omega arith)
bits_say s a (suc n) (suc k) lt = bits_say s (a + 1) n k (omega arith) ∙ ap s (omega arith)

-- each state is one of them, on the first n atoms
state_there : (s : State) (n : ℕ) → Member (states n) (state_of (bits s 0 n))
state_there s n = member_map state_of (choices (replicate n (true ∷ false ∷ []))) (bits s 0 n) (bits_there s 0 n)

state_same : (s : State) (n : ℕ) → SameBelow n (state_of (bits s 0 n)) s
state_same s n k lt = bits_say s 0 n k lt ∙ ap s (omega arith)

any_same : (n : ℕ) (s t : State) → SameBelow n s t → (ls : List Lit) → are_below n ls ≡ true → list_any (holds s) ls ≡ list_any (holds t) ls
any_same n s t same ls h = any_alike (holds s) (holds t) ls (λ l m. holds_same n s t same l (all_member (below n) ls l m h))

model_same : (i : Initial) (n : ℕ) → IsOfAtoms n i → (s t : State) → SameBelow n s t → is_model i s ≡ is_model i t
model_same i n over s t same =
    rw (
      all_alike (list_any (holds s)) (list_any (holds t)) i.clauses (λ c m. any_same n s t same c (all_member (are_below n) i.clauses c m over.clauses)),
      all_alike (λ (p : AtomId). not (s p.0)) (λ p. not (t p.0)) i.closed (λ p m. ap not (same p.0 (ltb-true p.0 n (all_member (λ (p : AtomId). nat_lt p.0 n) i.closed p m over.closed)))),
    ) refl

-- ---- the law

pub closure_over_first_atoms : IsClosureExact
closure_over_first_atoms i n over tag tag_below = record {
  closure = record {
    of_atoms = λ l h. literal_below n l (filter_member test (literals n) l (member-has (closure i n tag) l h)).0;
    entailed = λ l h s model meets.
        let r = filter_member test (literals n) l (member-has (closure i n tag) l h) in
        let t = state_of (bits s 0 n) in
        let same = state_same s n in
        let is : (is_model i t && list_all (holds t) tag) ≡ true = and_from (is_model i t) (list_all (holds t) tag) (model_same i n over t s same ∙ model) (all_same n t s same tag tag_below ∙ meets) in
        let there : Member (models_of i n tag) t = member_filter (λ s. is_model i s && list_all (holds s) tag) (states n) t (state_there s n) is in
        sym (holds_same n t s same l (lt-ltb l.atom.0 n (literal_below n l r.0))) ∙ all_member (λ s. holds s l) (models_of i n tag) t there r.1;
    whole = λ l lt known.
        has-member (closure i n tag) l
        (member_filter test (literals n) l (literal_there n l lt)
        (all_from (λ s. holds s l) (models_of i n tag) (λ s m.
        let r = filter_member (λ s. is_model i s && list_all (holds s) tag) (states n) s m in
        let parts = and_parts (is_model i s) (list_all (holds s) tag) r.1 in
        known s parts.0 parts.1)));
  };
  ascending = rising_ascends 0 (closure i n tag) (rising_filter test 0 (literals n) (rising_weaker (2 * 0) 0 (literals n) (omega arith) (literals_rise 0 n)));
}
  where
    test : Lit → Bool
    test l = list_all (λ s. holds s l) (models_of i n tag)
