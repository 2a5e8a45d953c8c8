-- Sets of clauses and their places.
use Rattle.std.proofs.Common.{◌≡◌, ◌+◌, ◌++◌, ℕ, zero, suc, List, [], ◌∷◌, map, length, get_or, refl, sym, ap, ap₂, subst, ◌∙◌, arith}
use Rattle.std.proofs.lemmas.List.{map-append, length-map}
use Rattle.std.specs.List.{range_with_len}
use Rattle.kp_base.specs.declared.lit.Lit.{Lit}
use Rattle.kp_base.specs.Lists.{Member}
use Rattle.kp_base.proofs.Lists.{map_map, map_member, member_map}
use Rattle.kp_cover_subsets.specs.Subsets.{subsets, place_sets}
use Rattle.kp_cover_subsets.specs.Laws.{IsSublist}
use Rattle.kp_cover_subsets.proofs.Public.{subsets_are}
use Rattle.kp_cover.specs.Covering.{pick}

-- ---- all clauses, by their places

all_from : (all cs : List (List Lit)) (a : ℕ) → ((k : ℕ) → get_or all (a + k) [] ≡ get_or cs k []) → pick all (range_with_len a (length cs)) ≡ cs
all_from all [] a h = refl
all_from all (c ∷ cs) a h = ap₂ (λ x xs. x ∷ xs) (ap (λ m. get_or all m []) (omega arith) ∙ h 0) (all_from all cs (a + 1) (λ k. ap (λ m. get_or all m []) (omega arith) ∙ h (suc k)))

all_places : (cs : List (List Lit)) → pick cs (range_with_len 0 (length cs)) ≡ cs
all_places cs = all_from cs cs 0 (λ k. ap (λ m. get_or cs m []) (omega arith))

-- ---- sets of one size

subsets_map : {X Y : Type 0} (f : X → Y) (k : ℕ) (xs : List X) → subsets k (map f xs) ≡ map (map f) (subsets k xs)
subsets_map f zero xs = refl
subsets_map f (suc k) [] = refl
subsets_map f (suc k) (x ∷ xs) =
    ap₂ (λ a b. a ++ b)
    (ap (map (λ s. f x ∷ s)) (subsets_map f k xs) ∙ (map_map (map f) (λ s. f x ∷ s) (λ s. f x ∷ map f s) (subsets k xs) (λ s. refl) ∙ sym (map_map (λ s. x ∷ s) (map f) (λ s. f x ∷ map f s) (subsets k xs) (λ s. refl))))
    (subsets_map f (suc k) xs)
    ∙ sym (map-append (map f) (map (λ s. x ∷ s) (subsets k xs)) (subsets (suc k) xs))

-- the sets of k clauses stand at the sets of k places
pub sets_at : (cs : List (List Lit)) (k : ℕ) → subsets k cs ≡ map (pick cs) (place_sets (length cs) k)
sets_at cs k = ap (subsets k) (sym (all_places cs)) ∙ subsets_map (λ m. get_or cs m []) k (range_with_len 0 (length cs))

-- ---- some of the clauses

sublist_map : {X Y : Type 0} (f : X → Y) (s xs : List X) → IsSublist s xs → IsSublist (map f s) (map f xs)
sublist_map f _ _ IsSublist.end = IsSublist.end
sublist_map f s _ (IsSublist.skip _ xs x h) = IsSublist.skip (map f s) (map f xs) (f x) (sublist_map f s xs h)
sublist_map f _ _ (IsSublist.keep s xs x h) = IsSublist.keep (map f s) (map f xs) (f x) (sublist_map f s xs h)

-- a set of one size is some of the clauses
pub some_of : (cs : List (List Lit)) (k : ℕ) (set : List (List Lit)) → Member (subsets k cs) set → IsSublist set cs
some_of cs k set m =
    let range = range_with_len 0 (length cs) in
    let q = map_member (pick cs) (place_sets (length cs) k) set (subst (λ (sets : List (List (List Lit))). Member sets set) (sets_at cs k) m) in
    let s = (((subsets_are k range).exact q.0).0 q.1).0 in
    subst (λ (z : List (List Lit)). IsSublist z cs) q.2 (subst (IsSublist (pick cs q.0)) (all_places cs) (sublist_map (λ m. get_or cs m []) q.0 range s))

-- of that many
pub subset_length : (k : ℕ) (cs set : List (List Lit)) → Member (subsets k cs) set → length set ≡ k
subset_length k cs set m =
    let q = map_member (pick cs) (place_sets (length cs) k) set (subst (λ (sets : List (List (List Lit))). Member sets set) (sets_at cs k) m) in
    sym (ap length q.2) ∙ (length-map q.0 (λ k. get_or cs k []) ∙ (((subsets_are k (range_with_len 0 (length cs))).exact q.0).0 q.1).1)

places_from : (all some cs : List (List Lit)) (a : ℕ) → IsSublist some cs → ((k : ℕ) → get_or all (a + k) [] ≡ get_or cs k []) → (places : List ℕ) × IsSublist places (range_with_len a (length cs)) × (pick all places ≡ some)
places_from all _ _ a IsSublist.end h = ([], IsSublist.end, refl)
places_from all some _ a (IsSublist.skip _ cs c s) h =
    let r = places_from all some cs (a + 1) s (λ k. ap (λ m. get_or all m []) (omega arith) ∙ h (suc k)) in
    (r.0, IsSublist.skip r.0 (range_with_len (a + 1) (length cs)) a r.1, r.2)
places_from all _ _ a (IsSublist.keep some cs c s) h =
    let r = places_from all some cs (a + 1) s (λ k. ap (λ m. get_or all m []) (omega arith) ∙ h (suc k)) in
    (a ∷ r.0, IsSublist.keep r.0 (range_with_len (a + 1) (length cs)) a r.1, ap₂ (λ x xs. x ∷ xs) (ap (λ m. get_or all m []) (omega arith) ∙ h 0) r.2)

-- and some of them are a set of their size
pub of_some : (cs set : List (List Lit)) → IsSublist set cs → Member (subsets (length set) cs) set
of_some cs set s =
    let r = places_from cs set cs 0 s (λ k. ap (λ m. get_or cs m []) (omega arith)) in
    let long : length r.0 ≡ length set = sym (length-map r.0 (λ k. get_or cs k [])) ∙ ap length r.2 in
    let there = ((subsets_are (length set) (range_with_len 0 (length cs))).exact r.0).1 (r.1, long) in
    subst (λ (sets : List (List (List Lit))). Member sets set) (sym (sets_at cs (length set))) (subst (Member (map (pick cs) (place_sets (length cs) (length set)))) r.2 (member_map (pick cs) (place_sets (length cs) (length set)) r.0 there))
