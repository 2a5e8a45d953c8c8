-- Laws of sets of one size.
use Rattle.std.specs.Prelude.{◌≡◌, ◌↔◌, ◌≤◌, ◌<◌, ◌++◌, ℕ, Bool, false, List, [], ◌∷◌, length}
use Rattle.std.specs.List.{range_with_len}
use Rattle.std.specs.declared.cmp.Ordering.TheVariants.{Less}
use Rattle.std.specs.Ordering.{nat_cmp}
use Rattle.std.specs.Cmp.Lexicographic.{slice_cmp}
use Rattle.kp_base.specs.Lists.{Member}
use Rattle.kp_cover_subsets.specs.Subsets.{subsets, place_sets, choose}
use Rattle.kp_cover_subsets.specs.Sizes.{IsLeast}

-- the list with some of its elements left out
pub data IsSublist {X : Type 0} : List X → List X → Type 0 where
  end : IsSublist [] []
  skip : (s xs : List X) (x : X) → IsSublist s xs → IsSublist s (x ∷ xs)
  keep : (s xs : List X) (x : X) → IsSublist s xs → IsSublist (x ∷ s) (x ∷ xs)

-- the sets of k elements are the sublists of this length, and there are as many as the binomial number says
pub record AreSublists (k : ℕ) (xs : List ℕ) : Type 0 where
  pub exact : (s : List ℕ) → Member (subsets k xs) s ↔ (IsSublist s xs × (length s ≡ k))
  pub many : length (subsets k xs) ≡ choose (length xs) k

abbrev pub SubsetsAreSublists : Type 0
SubsetsAreSublists = (k : ℕ) (xs : List ℕ) → AreSublists k xs

-- where a least set is found and no size is skipped, no smaller set from the first size on passes
abbrev pub NoSmallerSetPasses : Type 0
NoSmallerSetPasses = (p : List ℕ → Bool) (n limit first last size : ℕ) (places : List ℕ) → IsLeast p n limit false first last size places
    → (s : List ℕ) → IsSublist s (range_with_len 0 n) → first ≤ length s → length s < size → p s ≡ false

-- the sets of places stand in order: of two, at the first place in which they differ, the earlier has the lesser
abbrev pub SetsAreInOrder : Type 0
SetsAreInOrder = (n k : ℕ) (front between rest : List (List ℕ)) (s t : List ℕ) → place_sets n k ≡ front ++ s ∷ between ++ t ∷ rest → slice_cmp nat_cmp s t ≡ Less
