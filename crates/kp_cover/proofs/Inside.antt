-- Whether a state that satisfies what is known is inside some tags.
use Rattle.std.proofs.Common.{◌≡◌, ◌<◌, ℕ, zero, suc, Bool, true, false, not, ◌&&◌, ◌||◌, nat_lt, List, [], ◌∷◌, length, Option, Some, None, slice_get, fold, arith, refl, sym, ap, ◌∙◌, ltb-true}
use Rattle.std.proofs.lemmas.Bool.{false≢true, true_from_ne_false}
use Rattle.std.specs.List.{list_all, range_with_len}
use Rattle.kp_base.specs.declared.lit.Lit.{Lit}
use Rattle.kp_base.specs.declared.ground.Initial.{Initial}
use Rattle.kp_base.specs.Steps.{State, holds, is_model}
use Rattle.kp_base.specs.Implicates.{are_below}
use Rattle.kp_base.proofs.Lists.{all_member, member_at}
use Rattle.kp_primes_first_model.specs.declared.truth.Truth.{Truth}
use Rattle.kp_primes_first_model.specs.declared.truth.Truth.TheVariants.{Yes, No, Open}
use Rattle.kp_primes_first_model.specs.Truths.{IsTruth, opposite, both, either, truth_in}
use Rattle.kp_primes_first_model.specs.Asked.{Judges, AskTheSame, is_wanted, passes_one, test_at}
use Rattle.kp_primes_first_model.proofs.Public.{truth_of_not, truth_of_all, truth_of_any, truth_of_literal}
use Rattle.kp_cover.specs.Valid.{satisfies_one, AreValidTags, is_outside}
use Rattle.kp_cover.specs.Inside.{truth_at, any_truth, satisfies_at, satisfies_one_of, still_left}
use Rattle.kp_cover.proofs.Leaving.{all_places, left_same}

-- ---- the first that decides

all_no : (known : List Lit) (xs : List Lit) → fold (λ t x. both t (truth_in known x)) No xs ≡ No
all_no known [] = refl
all_no known (x ∷ xs) = all_no known xs

both_no : (t : Truth) → both t No ≡ No
both_no Yes = refl
both_no No = refl
both_no (Open a) = refl

-- one literal that is false makes the whole false
pub no_decides : (known : List Lit) (all : Truth) (x : Lit) (xs ys : List Lit) → ys ≡ x ∷ xs → truth_in known x ≡ No → No ≡ fold (λ t y. both t (truth_in known y)) all ys
no_decides known all x xs ys here is =
    sym (ap (fold (λ t y. both t (truth_in known y)) all) here ∙ (ap (λ u. fold (λ t y. both t (truth_in known y)) (both all u) xs) is ∙ (ap (λ u. fold (λ t y. both t (truth_in known y)) u xs) (both_no all) ∙ all_no known xs)))

any_yes : (known : List Lit) (tags : List (List Lit)) (ks : List ℕ) → fold (λ t k. either t (truth_at known (slice_get tags k))) Yes ks ≡ Yes
any_yes known tags [] = refl
any_yes known tags (k ∷ ks) = any_yes known tags ks

either_yes : (t : Truth) → either t Yes ≡ Yes
either_yes Yes = refl
either_yes No = refl
either_yes (Open a) = refl

-- one tag that is true makes some true
pub yes_decides : (known : List Lit) (tags : List (List Lit)) (any : Truth) (x : ℕ) (xs ys : List ℕ) → ys ≡ x ∷ xs → truth_at known (slice_get tags x) ≡ Yes → Yes ≡ fold (λ t k. either t (truth_at known (slice_get tags k))) any ys
yes_decides known tags any x xs ys here is =
    let next : Truth → List ℕ → Truth = fold (λ t k. either t (truth_at known (slice_get tags k))) in
    sym (ap (next any) here ∙ (ap (λ u. next (either any u) xs) is ∙ (ap (λ u. next u xs) (either_yes any) ∙ any_yes known tags xs)))

-- ---- the test

module _ (n : ℕ) (known : List Lit) (tags : List (List Lit)) (below : list_all (are_below n) tags ≡ true) (s : State) (met : list_all (holds s) known ≡ true) where
  at_place : (k : ℕ) (o : Option (List Lit)) → slice_get tags k ≡ o → IsTruth n known (satisfies_at s o) (truth_at known o)
  at_place k None is = refl
  at_place k (Some tag) is = truth_of_all n known (holds s) (truth_in known) tag
      (λ l i. truth_of_literal n known s met l (ltb-true l.atom.0 n (all_member (λ l. nat_lt l.atom.0 n) tag l i (all_member (are_below n) tags tag (member_at tags k tag is) below))))
      true Yes refl

  pub judged : (ks : List ℕ) → IsTruth n known (not (satisfies_one_of tags ks s)) (opposite (any_truth known tags ks))
  judged ks = truth_of_not n known (satisfies_one_of tags ks s) (any_truth known tags ks)
      (truth_of_any n known (λ k. satisfies_at s (slice_get tags k)) (λ k. truth_at known (slice_get tags k)) ks (λ k m. at_place k (slice_get tags k) refl) false No refl)

-- the one test
abbrev pub outside_test : List (List Lit) → List ℕ → State → Bool
outside_test tags ks s = not (satisfies_one_of tags ks s)

pub judged_at : (n : ℕ) (known : List Lit) (tags : List (List Lit)) (ks : List ℕ) → list_all (are_below n) tags ≡ true → (k : ℕ) → k < 1 → Judges n (test_at (outside_test tags ks ∷ []) k) known (opposite (any_truth known tags ks))
judged_at n known tags ks below zero lt = λ s met. judged n known tags below s met ks
judged_at n known tags ks below (suc k) lt = absurd (omega arith)

-- the tags that are left ask the same
pub left_asks : (known : List Lit) (tags : List (List Lit)) (ks : List ℕ) → AskTheSame (λ s. list_all (holds s) known) (outside_test tags ks ∷ []) (outside_test tags (still_left known tags ks) ∷ [])
left_asks known tags ks = record { as_many = refl; same = same }
  where
    same : (k : ℕ) (s : State) → list_all (holds s) known ≡ true → test_at (outside_test tags (still_left known tags ks) ∷ []) k s ≡ test_at (outside_test tags ks ∷ []) k s
    same zero s met = ap not (left_same known tags s met ks)
    same (suc k) s met = refl

-- who passes it is outside, where no tag is left out
abbrev pub wanted : Initial → List (List Lit) → List ℕ → State → Bool
wanted i tags ks = is_wanted i (passes_one (outside_test tags ks ∷ []))

abbrev pub outside : Initial → List (List Lit) → State → Bool
outside i tags = is_outside i tags

pub one_is : (i : Initial) (tags : List (List Lit)) (ks : List ℕ) → ks ≡ range_with_len 0 (length tags) → (s : State) → wanted i tags ks s ≡ outside i tags s
one_is i tags ks are s = ap (λ b. is_model i s && b) (alone (outside_test tags ks s) ∙ ap not (all_places s tags ks are))
  where
    alone : (b : Bool) → (b || false) ≡ b
    alone true = refl
    alone false = refl

-- where no model is outside, the tags are valid
pub all_inside : (i : Initial) (tags : List (List Lit)) → ((s : State) → is_outside i tags s ≡ false) → AreValidTags i tags
all_inside i tags none s m = true_from_ne_false (satisfies_one tags s) (λ off. false≢true (sym (none s) ∙ (ap (λ b. b && not (satisfies_one tags s)) m ∙ ap not off)))
