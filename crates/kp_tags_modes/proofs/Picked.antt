-- Sets of clauses by their places.
use Rattle.std.proofs.Common.{◌≡◌, ◌+◌, ◌++◌, ℕ, zero, suc, Bool, true, false, List, [], ◌∷◌, Some, None, if◌then◌else◌, map, length, get_or, refl, sym, ap, ap₂, subst, ◌∙◌, arith}
use Rattle.std.proofs.lemmas.Bool.{false≢true}
use Rattle.std.proofs.lemmas.List.{map-append}
use Rattle.std.specs.List.{range_with_len}
use Rattle.kp_base.specs.declared.lit.Lit.{Lit}
use Rattle.kp_base.specs.declared.ground.Initial.{Initial}
use Rattle.kp_base.specs.Lists.{Member}
use Rattle.kp_base.proofs.Lists.{map_map, map_member}
use Rattle.kp_cover_subsets.specs.Subsets.{subsets, place_sets, first_that}
use Rattle.kp_cover_subsets.proofs.Public.{first_none}
use Rattle.kp_cover.specs.Covering.{pick}
use Rattle.kp_tags_modes.specs.Modes.{IsCovering, IsFirstCovering}

-- ---- sets of a list of images

pub subsets-map : {X Y : Type 0} (f : X → Y) (k : ℕ) (xs : List X) → subsets k (map f xs) ≡ map (map f) (subsets k xs)
subsets-map f zero xs = refl
subsets-map f (suc k) [] = refl
subsets-map f (suc k) (x ∷ xs) =
    ap₂ (λ a b. a ++ b)
    (ap (map (λ s. f x ∷ s)) (subsets-map f k xs) ∙ (map_map (map f) (λ s. f x ∷ s) (λ s. f x ∷ map f s) (subsets k xs) (λ s. refl) ∙ sym (map_map (λ s. x ∷ s) (map f) (λ s. f x ∷ map f s) (subsets k xs) (λ s. refl))))
    (subsets-map f (suc k) xs)
    ∙ sym (map-append (map f) (map (λ s. x ∷ s) (subsets k xs)) (subsets (suc k) xs))

-- ---- the clauses at all places

all-from : (cs ds : List (List Lit)) (a : ℕ) → ((k : ℕ) → get_or cs (a + k) [] ≡ get_or ds k []) → map (λ k. get_or cs k []) (range_with_len a (length ds)) ≡ ds
all-from cs [] a h = refl
all-from cs (d ∷ ds) a h = ap₂ (λ x xs. x ∷ xs) (ap (λ m. get_or cs m []) (omega arith) ∙ h 0) (all-from cs ds (a + 1) (λ k. ap (λ m. get_or cs m []) (omega arith) ∙ h (suc k)))

all-places : (cs : List (List Lit)) → pick cs (range_with_len 0 (length cs)) ≡ cs
all-places cs = all-from cs cs 0 (λ k. ap (λ m. get_or cs m []) (omega arith))

-- the sets of k clauses stand at the sets of k places
pub sets_at : (cs : List (List Lit)) (k : ℕ) → subsets k cs ≡ map (pick cs) (place_sets (length cs) k)
sets_at cs k = ap (subsets k) (sym (all-places cs)) ∙ subsets-map (λ m. get_or cs m []) k (range_with_len 0 (length cs))

-- ---- the first that covers

module _ (i : Initial) (cs : List (List Lit)) (p : List ℕ → Bool) (told : (places : List ℕ) → p places ≡ true → IsCovering i cs (pick cs places)) (untold : (places : List ℕ) → IsCovering i cs (pick cs places) → p places ≡ true) where
  first-picked : (sets : List (List ℕ)) (places : List ℕ) → first_that p sets ≡ Some places → IsFirstCovering i cs (map (pick cs) sets) (pick cs places)
  first-picked [] places h = absurd (cc h)
  first-picked (s ∷ sets) places h = go (λ e. first-picked sets places e) (p s) refl h
    where
      go : (first_that p sets ≡ Some places → IsFirstCovering i cs (map (pick cs) sets) (pick cs places)) → (b : Bool) → p s ≡ b → (if b then Some s else first_that p sets) ≡ Some places → IsFirstCovering i cs (pick cs s ∷ map (pick cs) sets) (pick cs places)
      go rest true is e = let same : s ≡ places = cc e in subst (λ (q : List ℕ). IsFirstCovering i cs (pick cs s ∷ map (pick cs) sets) (pick cs q)) same (IsFirstCovering.here (pick cs s) (map (pick cs) sets) (told s is))
      go rest false is e = IsFirstCovering.later (pick cs s) (pick cs places) (map (pick cs) sets) (λ c. false≢true (sym is ∙ untold s c)) (rest e)

  pub first_covers : (k : ℕ) (places : List ℕ) → first_that p (place_sets (length cs) k) ≡ Some places → IsFirstCovering i cs (subsets k cs) (pick cs places)
  first_covers k places h = subst (λ (sets : List (List (List Lit))). IsFirstCovering i cs sets (pick cs places)) (sym (sets_at cs k)) (first-picked (place_sets (length cs) k) places h)

  pub none_covers : (k : ℕ) → first_that p (place_sets (length cs) k) ≡ None → (set : List (List Lit)) → Member (subsets k cs) set → IsCovering i cs set → ⊥
  none_covers k h set m c =
      let q = map_member (pick cs) (place_sets (length cs) k) set (subst (λ (sets : List (List (List Lit))). Member sets set) (sets_at cs k) m) in
      false≢true (sym (first_none p (place_sets (length cs) k) h q.0 q.1) ∙ untold q.0 (subst (λ (z : List (List Lit)). IsCovering i cs z) (sym q.2) c))
