-- Places between which deletes stand.
use Rattle.std.proofs.Common.{◌≡◌, ◌⊎◌, ◌≤◌, ◌<◌, ◌+◌, ◌%◌, ℕ, zero, suc, Bool, true, false, ◌&&◌, List, [], ◌∷◌, Some, length, get_or, slice_get, slice_index_or, inl, inr, sym, ap, subst, ◌∙◌, arith}
use Rattle.std.proofs.lemmas.Bool.{and_parts, false≢true, false_from_ne_true, cases_lt}
use Rattle.std.proofs.lemmas.Option.{get_or_from_slice_get}
use Rattle.kp_base.specs.declared.lit.Lit.{Lit}
use Rattle.kp_base.specs.declared.ground.Effect.{Effect}
use Rattle.kp_base.specs.declared.ground.Action.{Action}
use Rattle.kp_base.specs.Implicates.{is_within}
use Rattle.kp_base.specs.Lit.{negative, same_lit}
use Rattle.kp_base.proofs.Lists.{any_from, any_member, number_at}
use Rattle.kp_base.proofs.Lits.{same_lit-true}
use Rattle.kp_base.proofs.Places.{item_member}
use Rattle.kp_clash_exclusive.specs.Between.{IsBetween, AreBetween, Falls, Rises, DeletesFrom}
use Rattle.kp_clash_exclusive.specs.Settled.{deletes_within}

-- with wider places still
pub still_between : (f g e h : List ℕ) (i : ℕ) (d : Effect) → Falls f g → Rises e h → IsBetween f e i d → IsBetween g h i d
still_between f g e h i d falls rises is sign =
    let x = is sign in
    let low = x.0 in
    let high = x.1 in
    let fall = falls (d.result.atom.0 % 4096) in
    let rise = rises (d.result.atom.0 % 4096) in
    (omega (arith, low, fall), omega (arith, high, rise))

-- the effects so far, with one more
pub between_more : (f g e h : List ℕ) (es : List Effect) (n : ℕ) (x : Effect) → x ≡ get_or es n x → Falls f g → Rises e h
    → ((i : ℕ) (d : Effect) → i < n → slice_get es i ≡ Some d → IsBetween f e i d) → IsBetween g h n x
    → (i : ℕ) (d : Effect) → i < n + 1 → slice_get es i ≡ Some d → IsBetween g h i d
between_more f g e h es n x is-x falls rises before here i d lt at = elim (cases_lt i n) [
  | inl l ↦ still_between f g e h i d falls rises (before i d l at)
  | inr ge ↦
      let is : i ≡ n = omega (arith, ge, lt) in
      let got : x ≡ d = is-x ∙ get_or_from_slice_get es n d x (subst (λ (k : ℕ). slice_get es k ≡ Some d) is at) in
      subst (λ (k : ℕ). IsBetween g h k d) (sym is) (subst (λ (y : Effect). IsBetween g h n y) got here)
]

-- an effect at a place is below the end
pub get_below : {X : Type 0} (xs : List X) (i : ℕ) (x : X) → slice_get xs i ≡ Some x → i < length xs
get_below [] i x h = cc
get_below (y ∷ ys) zero x h = omega arith
get_below (y ∷ ys) (suc i) x h = let r = get_below ys i x h in omega (arith, r)

-- the deletes of one atom are between the places of its slot
pub deletes_from : (f e : List ℕ) (es : List Effect) (q : ℕ) → AreBetween f e es → DeletesFrom es q (slice_index_or f (q % 4096) 0) (slice_index_or e (q % 4096) 0)
deletes_from f e es q are i d at same =
    let is : d.result ≡ negative q = same_lit-true d.result (negative q) same in
    let x = are i d at (ap (λ (l : Lit). l.positive) is) in
    subst (λ (p : ℕ). (slice_index_or f (p % 4096) 0 ≤ i) × (i < slice_index_or e (p % 4096) 0)) (ap (λ (l : Lit). l.atom.0) is) x

-- none so far, and not this one
pub none_more : (p : Effect → Bool) (es : List Effect) (from n : ℕ) (x : Effect) → x ≡ get_or es n x → p x ≡ false
    → ((i : ℕ) (d : Effect) → from ≤ i → i < n → slice_get es i ≡ Some d → p d ≡ false)
    → (i : ℕ) (d : Effect) → from ≤ i → i < n + 1 → slice_get es i ≡ Some d → p d ≡ false
none_more p es from n x is-x here before i d low lt at = elim (cases_lt i n) [
  | inl l ↦ before i d low l at
  | inr ge ↦
      let is : i ≡ n = omega (arith, ge, lt) in
      let got : x ≡ d = is-x ∙ get_or_from_slice_get es n d x (subst (λ (k : ℕ). slice_get es k ≡ Some d) is at) in
      ap p (sym got) ∙ here
]

-- a delete at a place is one of the action
pub deletes_at : (a : Action) (q : ℕ) (ls : List Lit) (n : ℕ) (x : Effect) → n < length a.effects → x ≡ get_or a.effects n x → (same_lit x.result (negative q) && is_within x.cond ls) ≡ true → deletes_within a q ls ≡ true
deletes_at a q ls n x below is h = any_from (λ d. same_lit d.result (negative q) && is_within d.cond ls) a.effects x (item_member a.effects n x below is) h

-- where none between the places has its condition within the literals, none has
pub deletes_nowhere : (a : Action) (q : ℕ) (ls : List Lit) (from to n : ℕ) → DeletesFrom a.effects q from to → (to ≤ n) ⊎ (length a.effects ≤ n)
    → ((i : ℕ) (d : Effect) → from ≤ i → i < n → slice_get a.effects i ≡ Some d → (same_lit d.result (negative q) && is_within d.cond ls) ≡ false)
    → deletes_within a q ls ≡ false
deletes_nowhere a q ls from to n there end none = false_from_ne_true (deletes_within a q ls) (λ h.
    let x = any_member (λ d. same_lit d.result (negative q) && is_within d.cond ls) a.effects h in
    let at = number_at a.effects x.0 x.1 in
    let between = there at.0 x.0 at.1 (and_parts (same_lit x.0.result (negative q)) (is_within x.0.cond ls) x.2).0 in
    let low = between.0 in
    let high = between.1 in
    let below = get_below a.effects at.0 x.0 at.1 in
    let lt : at.0 < n = elim end [ inl le ↦ omega (arith, high, le) | inr le ↦ omega (arith, below, le) ] in
    false≢true (sym (none at.0 x.0 low lt at.1) ∙ x.2))
