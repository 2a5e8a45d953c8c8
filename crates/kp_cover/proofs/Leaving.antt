-- Tags by their places: those that aren't false where some literals are known.
use Rattle.std.proofs.Common.{◌≡◌, ◌<◌, ◌∙◌, ◌+◌, ◌++◌, ◌||◌, [], ◌∷◌, ℕ, suc, arith, ap, Bool, true, false, not, cond, filter, List, length, Option, Some, None, slice_get, refl, sym}
use Rattle.std.proofs.lemmas.Bool.{false≢true, false_from_ne_true, true_from_ne_false}
use Rattle.std.specs.List.{list_any, list_all, range_with_len}
use Rattle.kp_base.specs.declared.lit.Lit.{Lit}
use Rattle.kp_base.specs.Lit.{negated, has}
use Rattle.kp_base.specs.LitSet.{is_opposed}
use Rattle.kp_base.specs.Steps.{State, holds}
use Rattle.kp_base.proofs.Lists.{all_member, any_member}
use Rattle.kp_base.proofs.Places.{places_more}
use Rattle.kp_base.proofs.Lits.{holds-negated, member-has}
use Rattle.kp_cover.specs.Inside.{is_left_at, still_left, satisfies_at, satisfies_one_of}
use Rattle.kp_cover.specs.Valid.{satisfies_one}

-- ---- places from 0 on

-- one place more
pub next_place : (n : ℕ) (row : List ℕ) → row ≡ range_with_len 0 n → row ++ n ∷ [] ≡ range_with_len 0 (n + 1)
next_place n row e = ap (λ ks. ks ++ n ∷ []) e ∙ sym (places_more n)

-- the tags at all places are the tags
places_from : (s : State) (tags : List (List Lit)) (a : ℕ) (at : ℕ → Option (List Lit)) → ((k : ℕ) → k < length tags → at (a + k) ≡ slice_get tags k) → list_any (λ k. satisfies_at s (at k)) (range_with_len a (length tags)) ≡ satisfies_one tags s
places_from s [] a at same = refl
places_from s (t ∷ ts) a at same =
    let here : at a ≡ Some t = ap at (omega arith) ∙ same 0 (omega arith) in
    ap (λ o. satisfies_at s o || list_any (λ k. satisfies_at s (at k)) (range_with_len (a + 1) (length ts))) here
    ∙ ap (λ b. list_all (holds s) t || b) (places_from s ts (a + 1) at (λ k lt. ap at (omega arith) ∙ same (suc k) (omega (arith, lt))))

pub all_places : (s : State) (tags : List (List Lit)) (ks : List ℕ) → ks ≡ range_with_len 0 (length tags) → satisfies_one_of tags ks s ≡ satisfies_one tags s
all_places s tags ks are = ap (λ xs. satisfies_one_of tags xs s) are ∙ places_from s tags 0 (slice_get tags) (λ k lt. ap (slice_get tags) (omega arith))

-- ---- those that are left

any_of_left : {X : Type 0} (p left : X → Bool) (xs : List X) → ((x : X) → left x ≡ false → p x ≡ false) → list_any p (filter left xs) ≡ list_any p xs
any_of_left p left [] off = refl
any_of_left {X} p left (x ∷ xs) off = pick (left x) refl (any_of_left p left xs off)
  where
    pick : (b : Bool) → left x ≡ b → list_any p (filter left xs) ≡ list_any p xs → list_any p (cond b (x ∷ filter left xs) (filter left xs)) ≡ (p x || list_any p xs)
    pick true is rest = ap (λ c. p x || c) rest
    pick false is rest = rest ∙ sym (ap (λ c. c || list_any p xs) (off x is))

-- what isn't left is false
not_left : (known : List Lit) (s : State) → list_all (holds s) known ≡ true → (o : Option (List Lit)) → is_left_at known o ≡ false → satisfies_at s o ≡ false
not_left known s met None off = refl
not_left known s met (Some t) off = false_from_ne_true (list_all (holds s) t) (λ all.
    let opposed : is_opposed t known ≡ true = true_from_ne_false (is_opposed t known) (λ e. false≢true (sym off ∙ ap not e)) in
    let l = any_member (λ l. has known (negated l)) t opposed in
    false≢true (sym (holds-negated s l.0 ∙ ap not (all_member (holds s) t l.0 l.1 all)) ∙ all_member (holds s) known (negated l.0) (member-has known (negated l.0) l.2) met))

-- where some literals are true, one of the tags that these leave is satisfied just where one of all is
pub left_same : (known : List Lit) (tags : List (List Lit)) (s : State) → list_all (holds s) known ≡ true → (ks : List ℕ) → satisfies_one_of tags (still_left known tags ks) s ≡ satisfies_one_of tags ks s
left_same known tags s met ks = any_of_left (λ k. satisfies_at s (slice_get tags k)) (λ k. is_left_at known (slice_get tags k)) ks (λ k. not_left known s met (slice_get tags k))
