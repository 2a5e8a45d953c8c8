-- Subsets are sublists; what the first that passes says of the others.
use Rattle.std.proofs.Common.{◌≡◌, ◌+◌, ℕ, zero, suc, Bool, true, false, if◌then◌else◌, List, [], ◌∷◌, Some, None, map, length, refl, sym, ap, ap₂, subst, ◌∙◌, inl, inr, length-append}
use Rattle.std.proofs.lemmas.Bool.{false≢true}
use Rattle.std.proofs.lemmas.List.{length-map}
use Rattle.std.specs.List.{range_with_len}
use Rattle.kp_base.specs.Lists.{Member}
use Rattle.kp_base.proofs.Lists.{member_map, map_member, member_left, member_right, append_member}
use Rattle.kp_cover_subsets.specs.Subsets.{subsets, first_that, choose}
use Rattle.kp_cover_subsets.specs.Laws.{IsSublist, NoSmallerSetPasses, SubsetsAreSublists}

none-sub : {X : Type 0} (xs : List X) → IsSublist [] xs
none-sub [] = IsSublist.end
none-sub (x ∷ xs) = IsSublist.skip [] xs x (none-sub xs)

from-sub : {X : Type 0} (k : ℕ) (xs s : List X) → Member (subsets k xs) s → IsSublist s xs × (length s ≡ k)
from-sub {X} zero xs s m = elim m [ inl e ↦ (subst (λ (z : List X). IsSublist z xs) e (none-sub xs), ap length (sym e)) | inr bad ↦ absurd bad ]
from-sub (suc k) [] s m = absurd m
from-sub {X} (suc k) (x ∷ xs) s m = elim (append_member (map (λ r. x ∷ r) (subsets k xs)) (subsets (suc k) xs) s m) [
  | inl h ↦
      let r = map_member (λ r. x ∷ r) (subsets k xs) s h in
      let q = from-sub k xs r.0 r.1 in
      (subst (λ (z : List X). IsSublist z (x ∷ xs)) r.2 (IsSublist.keep r.0 xs x q.0), ap length (sym r.2) ∙ ap suc q.1)
  | inr h ↦ let q = from-sub (suc k) xs s h in (IsSublist.skip s xs x q.0, q.1)
]

to-sub : {X : Type 0} (s xs : List X) → IsSublist s xs → Member (subsets (length s) xs) s
to-sub _ _ IsSublist.end = inl refl
to-sub [] _ (IsSublist.skip _ xs x h) = inl refl
to-sub (y ∷ s) _ (IsSublist.skip _ xs x h) = member_right (map (λ r. x ∷ r) (subsets (length s) xs)) (subsets (suc (length s)) xs) (y ∷ s) (to-sub (y ∷ s) xs h)
to-sub _ _ (IsSublist.keep s xs x h) = member_left (map (λ r. x ∷ r) (subsets (length s) xs)) (subsets (suc (length s)) xs) (x ∷ s) (member_map (λ r. x ∷ r) (subsets (length s) xs) s (to-sub s xs h))

how-many : {X : Type 0} (k : ℕ) (xs : List X) → length (subsets k xs) ≡ choose (length xs) k
how-many zero xs = refl
how-many (suc k) [] = refl
how-many (suc k) (x ∷ xs) =
    length-append (map (λ s. x ∷ s) (subsets k xs)) (subsets (suc k) xs)
    ∙ ap₂ (λ a b. a + b) (length-map (subsets k xs) (λ s. x ∷ s) ∙ how-many k xs) (how-many (suc k) xs)

pub subsets_are : SubsetsAreSublists
subsets_are k xs = record {
  exact = λ s. (from-sub k xs s, λ h. subst (λ (m : ℕ). Member (subsets m xs) s) h.1 (to-sub s xs h.0));
  many = how-many k xs;
}

pub first_none : {X : Type 0} (p : X → Bool) (xs : List X) → first_that p xs ≡ None → (x : X) → Member xs x → p x ≡ false
first_none p [] h x m = absurd m
first_none {X} p (y ∷ ys) h x m = go (λ e r. first_none p ys e x r) (p y) refl h
  where
    go : (first_that p ys ≡ None → Member ys x → p x ≡ false) → (b : Bool) → p y ≡ b → (if b then Some y else first_that p ys) ≡ None → p x ≡ false
    go rest true is e = absurd (cc e)
    go rest false is e = elim m [ inl same ↦ subst (λ (z : X). p z ≡ false) same is | inr r ↦ rest e r ]

pub first_some : {X : Type 0} (p : X → Bool) (xs : List X) (x : X) → first_that p xs ≡ Some x → Member xs x × (p x ≡ true)
first_some p [] x h = absurd (cc h)
first_some {X} p (y ∷ ys) x h = go (λ e. first_some p ys x e) (p y) refl h
  where
    go : (first_that p ys ≡ Some x → Member ys x × (p x ≡ true)) → (b : Bool) → p y ≡ b → (if b then Some y else first_that p ys) ≡ Some x → Member (y ∷ ys) x × (p x ≡ true)
    go rest true is e = let same : y ≡ x = cc e in (inl same, subst (λ (z : X). p z ≡ true) same is)
    go rest false is e = let r = rest e in (inr r.0, r.1)

pub no_smaller : NoSmallerSetPasses
no_smaller p n limit first last size places l s sub from below = elim (l.least (length s) from below) [
  | inl q ↦ first_none p (subsets (length s) (range_with_len 0 n)) q.1 s (to-sub s (range_with_len 0 n) sub)
  | inr q ↦ absurd (false≢true q.1)
]

sublist_member : {X : Type 0} (s xs : List X) → IsSublist s xs → (x : X) → Member s x → Member xs x
sublist_member _ _ IsSublist.end x m = m
sublist_member s _ (IsSublist.skip _ xs y h) x m = inr (sublist_member s xs h x m)
sublist_member _ _ (IsSublist.keep s xs y h) x m = elim m [ inl e ↦ inl e | inr r ↦ inr (sublist_member s xs h x r) ]

-- a list is a sublist of itself
pub sublist_itself : {X : Type 0} (xs : List X) → IsSublist xs xs
sublist_itself [] = IsSublist.end
sublist_itself (x ∷ xs) = IsSublist.keep xs xs x (sublist_itself xs)

-- the elements of a set are those of the list
pub subset_member : {X : Type 0} (k : ℕ) (xs s : List X) → Member (subsets k xs) s → (x : X) → Member s x → Member xs x
subset_member k xs s m = sublist_member s xs (from-sub k xs s m).0
