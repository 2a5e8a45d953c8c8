-- The places of the clauses that have a literal, and what is resolved with the clauses there.
use Rattle.std.proofs.Common.{◌≡◌, ◌≢◌, ◌<◌, ◌+◌, ℕ, zero, suc, Bool, true, false, ◌||◌, ◌&&◌, cond, List, [], ◌∷◌, ◌++◌, Some, refl, sym, ◌∙◌, ap, subst, inl, inr, take, length, get_or, slice_get, fold, nat_lt, arith}
use Rattle.std.proofs.lemmas.Bool.{false≢true, cases_eq, false_from_ne_true}
use Rattle.std.proofs.lemmas.List.{take_more, append_assoc, length-take}
use Rattle.std.proofs.lemmas.List.Folds.{list_any-append}
use Rattle.std.specs.List.{list_any}
use Rattle.kp_base.specs.declared.lit.Lit.{Lit}
use Rattle.kp_base.specs.Planning.{Member, negated, same_lit, code_of, IsAscending}
use Rattle.kp_base.specs.Steps.{has}
use Rattle.kp_base.specs.Implicates.{is_within}
use Rattle.kp_base.proofs.Lists.{any_from}
use Rattle.kp_base.proofs.Lits.{has-member, same_lit-true, same_lit-refl}
use Rattle.kp_base.proofs.Ascending.{code_of-injective, tail_ascends}
use Rattle.kp_clauses.specs.Resolved.{resolved}
use Rattle.kp_clauses.specs.Stored.{subsumed, are_apart}
use Rattle.kp_clauses.proofs.Public.{within_member, two_lists_apart}
use Rattle.kp_primes.proofs.Rising.{above}
use Rattle.kp_primes.specs.Included.{grown, is_least, met, met_all}
use Rattle.kp_clauses.specs.Listed.{row}
use Rattle.kp_primes.specs.Placed.{places, AreHolders, met_one, met_at, within_at, rarer, held_at}

-- ---- one clause more

places_more : (l : Lit) (i : ℕ) (cs : List (List Lit)) (c : List Lit) → places l i (cs ++ c ∷ []) ≡ places l i cs ++ cond (has c l) ((i + length cs) ∷ []) []
places_more l i [] c = ap (λ z. cond (has c l) (z ∷ []) []) (omega arith)
places_more l i (d ∷ cs) c = go (has d l) (places_more l (i + 1) cs c ∙ ap (λ z. places l (i + 1) cs ++ cond (has c l) (z ∷ []) []) (shift i (length cs)))
  where
    shift : (i n : ℕ) → i + 1 + n ≡ i + suc n
    shift i n = omega arith

    go : (b : Bool) → places l (i + 1) (cs ++ c ∷ []) ≡ places l (i + 1) cs ++ cond (has c l) ((i + suc (length cs)) ∷ []) [] → cond b (i ∷ places l (i + 1) (cs ++ c ∷ [])) (places l (i + 1) (cs ++ c ∷ [])) ≡ cond b (i ∷ places l (i + 1) cs) (places l (i + 1) cs) ++ cond (has c l) ((i + suc (length cs)) ∷ []) []
    go true rest = ap (λ z. i ∷ z) rest
    go false rest = rest

-- a place is put at the end of the lists of these literals
pub record IsPutFor (c : List Lit) (place : ℕ) (old new : List (List ℕ)) : Type 0 where
  pub each : (l : Lit) → row new (code_of l) ≡ row old (code_of l) ++ cond (has c l) (place ∷ []) []

get_member : {X : Type 0} (xs : List X) (i : ℕ) (d : X) → i < length xs → Member xs (get_or xs i d)
get_member [] i d lt = absurd (omega arith)
get_member (x ∷ xs) zero d lt = inl refl
get_member (x ∷ xs) (suc i) d lt = inr (get_member xs i d (omega arith))

-- no literal stands twice
not_before : (c : List Lit) → IsAscending c → (i : ℕ) (d : Lit) → i < length c → has (take i c) (get_or c i d) ≡ false
not_before [] asc i d lt = absurd (omega arith)
not_before (x ∷ c) asc zero d lt = refl
not_before (x ∷ c) asc (suc i) d lt = rw (false_from_ne_true (same_lit (get_or c i d) x) apart, not_before c (tail_ascends x c asc) i d (omega arith)) refl
  where
    apart : same_lit (get_or c i d) x ≡ true → ⊥
    apart e =
        let lt' = above x c asc (get_or c i d) (get_member c i d (omega arith)) in
        let same = ap code_of (same_lit-true (get_or c i d) x e) in
        omega arith

module _ (c : List Lit) (i : ℕ) (d : Lit) (place : ℕ) (old lists new : List (List ℕ)) where
  pub put_more : IsAscending c → i < length c → row new (code_of (get_or c i d)) ≡ row lists (code_of (get_or c i d)) ++ place ∷ [] → ((k : ℕ) → k ≢ code_of (get_or c i d) → row new k ≡ row lists k) → IsPutFor (take i c) place old lists → IsPutFor (take (i + 1) c) place old new
  put_more asc lt own others h = record { each = λ l. elim (cases_eq (code_of l) (code_of (get_or c i d))) [ inl e ↦ here l (code_of-injective l (get_or c i d) e) | inr ne ↦ there l ne ] }
    where
      x : Lit
      x = get_or c i d

      grown : (l : Lit) → has (take (i + 1) c) l ≡ (has (take i c) l || (same_lit l x || false))
      grown l = ap (λ z. has z l) (take_more c i d lt) ∙ list_any-append (same_lit l) (take i c) (x ∷ [])

      own_place : row new (code_of x) ≡ row old (code_of x) ++ place ∷ []
      own_place =
          own
          ∙ (ap (λ z. z ++ place ∷ []) (h.each x ∙ ap (λ b. row old (code_of x) ++ cond b (place ∷ []) []) (not_before c asc i d lt))
          ∙ append_assoc (row old (code_of x)) [] (place ∷ []))

      has_x : has (take (i + 1) c) x ≡ true
      has_x = grown x ∙ rw (not_before c asc i d lt, same_lit-refl x) refl

      here : (l : Lit) → l ≡ x → row new (code_of l) ≡ row old (code_of l) ++ cond (has (take (i + 1) c) l) (place ∷ []) []
      here l e = subst (λ (l : Lit). row new (code_of l) ≡ row old (code_of l) ++ cond (has (take (i + 1) c) l) (place ∷ []) []) (sym e) (own_place ∙ ap (λ b. row old (code_of x) ++ cond b (place ∷ []) []) (sym has_x))

      or_none : (b : Bool) → (b || (false || false)) ≡ b
      or_none true = refl
      or_none false = refl

      there : (l : Lit) → code_of l ≢ code_of x → row new (code_of l) ≡ row old (code_of l) ++ cond (has (take (i + 1) c) l) (place ∷ []) []
      there l ne =
          let apart = false_from_ne_true (same_lit l x) (λ e. ne (ap code_of (same_lit-true l x e))) in
          others (code_of l) ne
          ∙ (h.each l ∙ ap (λ b. row old (code_of l) ++ cond b (place ∷ []) []) (sym (grown l ∙ rw apart (or_none (has (take i c) l)))))

pub holders_more : (cs : List (List Lit)) (i : ℕ) (x : List Lit) (old new : List (List ℕ)) → i < length cs → x ≡ get_or cs i x → IsPutFor x i old new → AreHolders old (take i cs) → AreHolders new (take (i + 1) cs)
holders_more cs i x old new lt is put h = record {
  each = λ l.
      let len : 0 + length (take i cs) ≡ i = omega (arith, length-take i cs) in
      let more : take (i + 1) cs ≡ take i cs ++ x ∷ [] = take_more cs i x lt ∙ ap (λ z. take i cs ++ z ∷ []) (sym is) in
      put.each l
      ∙ (ap (λ z. z ++ cond (has x l) (i ∷ []) []) (h.each l)
      ∙ sym (ap (places l 0) more ∙ (places_more l 0 (take i cs) x ∙ ap (λ z. places l 0 (take i cs) ++ cond (has x l) (z ∷ []) []) len)));
}

-- ---- the clauses there

behind : {X : Type 0} (xs ys : List X) (y : X) → slice_get (xs ++ y ∷ ys) (length xs) ≡ Some y
behind [] ys y = refl
behind (x ∷ xs) ys y = behind xs ys y

length_last : {X : Type 0} (xs : List X) (x : X) → length (xs ++ x ∷ []) ≡ length xs + 1
length_last [] x = refl
length_last (y ∷ xs) x = let i = length_last xs x in omega arith

module _ (ps es : List (List Lit)) (e : List Lit) (l : Lit) where
  from_here : (before rest fs : List (List Lit)) → before ++ rest ≡ ps → met_at ps es e l (places (negated l) (length before) rest) fs ≡ met_all ps es e l rest fs
  from_here before [] fs h = refl
  from_here before (p ∷ rest) fs h =
      go (has p (negated l)) refl (λ gs.
      subst (λ z. met_at ps es e l (places (negated l) z rest) gs ≡ met_all ps es e l rest gs) (length_last before p)
      (from_here (before ++ p ∷ []) rest gs (append_assoc before (p ∷ []) rest ∙ h)))
    where
      there : slice_get ps (length before) ≡ Some p
      there = subst (λ z. slice_get z (length before) ≡ Some p) h (behind before rest p)

      go : (b : Bool) → has p (negated l) ≡ b → ((gs : List (List Lit)) → met_at ps es e l (places (negated l) (length before + 1) rest) gs ≡ met_all ps es e l rest gs) → met_at ps es e l (cond b (length before ∷ places (negated l) (length before + 1) rest) (places (negated l) (length before + 1) rest)) fs ≡ met_all ps es e l rest (met ps es e l p fs)
      go true is next = ap (λ o. met_at ps es e l (places (negated l) (length before + 1) rest) (met_one ps es e l o fs)) there ∙ next (met ps es e l p fs)
      go false is next = next fs ∙ ap (met_all ps es e l rest) (sym (ap (λ b. cond (b && is_least ps es l (resolved e p l)) (grown fs (resolved e p l)) fs) is))

  -- resolving with the clauses that have the negation is resolving with all
  pub met_places : (fs : List (List Lit)) (at : List ℕ) → at ≡ places (negated l) 0 ps → met_at ps es e l at fs ≡ met_all ps es e l ps fs
  met_places fs at is = ap (λ z. met_at ps es e l z fs) is ∙ from_here [] ps fs refl

-- ---- what holds a clause

-- a clause that has the literal is at one of the places
pub placed : (l : Lit) (i : ℕ) (cs : List (List Lit)) (p : List Lit) → Member cs p → has p l ≡ true → (j : ℕ) × Member (places l i cs) (i + j) × (slice_get cs j ≡ Some p)
placed l i [] p m h = absurd m
placed l i (c ∷ cs) p m h = elim m [
  | inl e ↦ (0, subst (λ z. Member (cond z (i ∷ places l (i + 1) cs) (places l (i + 1) cs)) (i + 0)) (sym (ap (λ (x : List Lit). has x l) e ∙ h)) (inl (omega arith)), ap Some e)
  | inr r ↦
      let at = placed l (i + 1) cs p r h in
      let shift : i + 1 + at.0 ≡ i + suc at.0 = omega arith in (
        suc at.0,
        later (i + suc at.0) (has c l) (subst (Member (places l (i + 1) cs)) shift at.1),
        at.2,
      )
]
  where
    later : (n : ℕ) (b : Bool) → Member (places l (i + 1) cs) n → Member (cond b (i ∷ places l (i + 1) cs) (places l (i + 1) cs)) n
    later n true m = inr m
    later n false m = m

pub from_zero : (n : ℕ) → 0 + n ≡ n
from_zero n = omega arith

-- it is one of them
rarest_member : (lists : List (List ℕ)) (ls : List Lit) (l : Lit) → Member (l ∷ ls) (fold (rarer lists) l ls)
rarest_member lists [] l = inl refl
rarest_member lists (x ∷ ls) l = go (nat_lt (length (row lists (code_of x))) (length (row lists (code_of l)))) (rarest_member lists ls (rarer lists l x))
  where
    go : (b : Bool) → Member (cond b x l ∷ ls) (fold (rarer lists) (rarer lists l x) ls) → Member (l ∷ x ∷ ls) (fold (rarer lists) (rarer lists l x) ls)
    go true m = elim m [ inl e ↦ inr (inl e) | inr r ↦ inr (inr r) ]
    go false m = elim m [ inl e ↦ inl e | inr r ↦ inr (inr r) ]

-- a clause whose holders were looked at in vain is within none
pub not_held : (cs : List (List Lit)) (lists : List (List ℕ)) (c : List Lit) → AreHolders lists cs → held_at cs lists c (slice_get c 0) ≡ false → (p : List Lit) → Member cs p → is_within c p ≡ false
not_held cs lists [] h none p m = absurd (false≢true (sym none))
not_held cs lists (l ∷ c) h none p m = false_from_ne_true (is_within (l ∷ c) p) (λ inside.
    let best : Lit = fold (rarer lists) l (l ∷ c) in
    let own : Member (l ∷ c) best = elim (rarest_member lists (l ∷ c) l) [ inl e ↦ inl e | inr r ↦ r ] in
    let at = placed best 0 cs p m (has-member p best (within_member (l ∷ c) p inside best own)) in
    false≢true (sym none ∙ any_from (λ i. within_at (l ∷ c) (slice_get cs i)) (row lists (code_of best)) at.0 (subst (λ z. Member z at.0) (sym (h.each best)) (subst (Member (places best 0 cs)) (from_zero at.0) at.1)) (ap (within_at (l ∷ c)) at.2 ∙ inside)))

-- new clauses that none holds come behind
pub behind_apart : (ps es : List (List Lit)) (lists : List (List ℕ)) → are_apart ps ≡ true → are_apart es ≡ true → AreHolders lists ps → ((c : List Lit) → Member es c → subsumed ps c ≡ false) → list_any (λ c. held_at ps lists c (slice_get c 0)) es ≡ false → are_apart (ps ++ es) ≡ true
behind_apart ps es lists h k holders free off = two_lists_apart ps es h k (λ p e m n. (
  false_from_ne_true (is_within p e) (λ t. false≢true (sym (free e n) ∙ any_from (λ d. is_within d e) ps p m t)),
  not_held ps lists e holders (false_from_ne_true (held_at ps lists e (slice_get e 0)) (λ t. false≢true (sym off ∙ any_from (λ c. held_at ps lists c (slice_get c 0)) es e n t))) p m,
))
