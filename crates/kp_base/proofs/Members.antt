-- Lists with the same members, and the members of a range.
use Rattle.std.proofs.Common.{◌≡◌, ◌<◌, ◌+◌, ℕ, zero, suc, List, inl, inr, arith}
use Rattle.std.proofs.lemmas.List.Elements.{All-from_recursion, recursion_from_All}
use Rattle.std.proofs.lemmas.List.Sorted.{All-permutation}
use Rattle.std.specs.List.{range_with_len}
use Rattle.std.specs.List.Sorted.{IsPermutation}
use Rattle.kp_base.specs.declared.lit.Lit.{Lit}
use Rattle.kp_base.specs.Lists.{Member}
use Rattle.kp_base.specs.LitSet.{IsAscending}
use Rattle.kp_base.proofs.Ascending.{same_members}
use Rattle.kp_base.proofs.Each.{each_from, each_member}
use Rattle.kp_base.proofs.Lists.{member_contains, contains_member}

-- a list in another order has the same members
pub permuted_member : {X : Type 0} (xs ys : List X) → IsPermutation xs ys → (x : X) → Member ys x → Member xs x
permuted_member xs ys perm x m = each_member (Member xs) ys x (recursion_from_All (Member xs) ys (All-permutation (Member xs) xs ys perm (All-from_recursion (Member xs) xs (each_from (Member xs) xs (λ y n. n))))) m

-- ascending lists with the same members are the same
pub ascending_same : (c d : List Lit) → IsAscending c → IsAscending d → ((x : Lit) → Member c x → Member d x) → ((x : Lit) → Member d x → Member c x) → c ≡ d
ascending_same c d p q f g = same_members c d p q (λ x h. member_contains d x (f x (contains_member c x h))) (λ x h. member_contains c x (g x (contains_member d x h)))

pub range_only : (a n k : ℕ) → Member (range_with_len a n) k → k < a + n
range_only a zero k m = absurd m
range_only a (suc n) k m = elim m [
  | inl e ↦ omega arith
  | inr r ↦ let h = range_only (a + 1) n k r in omega arith
]
