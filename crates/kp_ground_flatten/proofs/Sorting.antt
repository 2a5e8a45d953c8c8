-- A list that is sorted and without repeats is the set of its literals.
use Rattle.std.proofs.Common.{◌≡◌, ℕ, Bool, true, false, List, [], ◌∷◌, map, refl, sym, ap, subst, ◌∙◌, IsPermutation, IsSorted}
use Rattle.std.specs.declared.cmp.Ordering.{Ordering}
use Rattle.std.specs.declared.cmp.Ordering.TheVariants.{Less, Equal, Greater}
use Rattle.std.specs.Ordering.{nat_cmp, bool_cmp, on, ordering_then, is_eq, eq_by_cmp}
use Rattle.std.specs.Cmp.{IsEquivalence, IsTotalOrder, on_total, Equal-is}
use Rattle.std.specs.Cmp.Lexicographic.{slice_cmp}
use Rattle.std.specs.List.{list_any, dedup, AllByRecursion}
use Rattle.std.specs.List.Sorted.{IsStrictlySortedBy}
use Rattle.std.proofs.lemmas.Cmp.{ranked, tied_itself}
use Rattle.std.proofs.lemmas.List.Kept.{Any-dedup, Contains-from_dedup, IsStrictlySortedBy-dedup}
use Rattle.std.proofs.lemmas.List.Sorted.{Contains-permutation, IsPermutation-sym}
use Rattle.kp_base.proofs.Lists.{bool_same, any_from, any_member, any_map, contains_member, member_contains}
use Rattle.kp_names_semantics.specs.declared.lifted.GroundLit.{GroundLit}
use Rattle.kp_names_semantics.specs.Lifted.{ground, same_literal, names_literal}
use Rattle.kp_ground_semantics.proofs.Public.{same_literal-true, same_literal-refl}
use Rattle.kp_ground_flatten.specs.declared.literal.BoundLit.{BoundLit}
use Rattle.kp_ground_flatten.specs.Literals.{lit_view}
use Rattle.kp_ground_flatten.specs.Shapes.{lit_cmp, IsSetOf}
use Rattle.kp_ground_flatten.proofs.Sets.{same_literal-symm, lit_cmp-total}

-- whether two literals of trees are one
abbrev pub same_lit : BoundLit → BoundLit → Bool
same_lit a b = same_literal (lit_view a) (lit_view b)

-- ---- the order tells literals apart

both_equal : (a b : Ordering) → ordering_then a b ≡ Equal → (a ≡ Equal) × (b ≡ Equal)
both_equal Less b h = cc
both_equal Equal b h = (refl, h)
both_equal Greater b h = cc

bools_equal : (a b : Bool) → bool_cmp a b ≡ Equal → a ≡ b
bools_equal true true h = refl
bools_equal true false h = cc
bools_equal false true h = cc
bools_equal false false h = refl

numbers_equal : (m n : ℕ) → nat_cmp m n ≡ Equal → m ≡ n
numbers_equal m n h = ranked m n Equal (sym h)

lists_equal : (ms ns : List ℕ) → slice_cmp nat_cmp ms ns ≡ Equal → ms ≡ ns
lists_equal [] [] h = refl
lists_equal [] (n ∷ ns) h = cc
lists_equal (m ∷ ms) [] h = cc
lists_equal (m ∷ ms) (n ∷ ns) h =
    let parts = both_equal (nat_cmp m n) (slice_cmp nat_cmp ms ns) h in
    let first = numbers_equal m n parts.0 in
    let rest = lists_equal ms ns parts.1 in
    cc (first, rest)

literals_equal : (l m : GroundLit) → lit_cmp l m ≡ Equal → l ≡ m
literals_equal l m h =
    let parts = both_equal (bool_cmp l.positive m.positive) (ordering_then (nat_cmp l.pred m.pred) (slice_cmp nat_cmp l.objects m.objects)) h in
    let inner = both_equal (nat_cmp l.pred m.pred) (slice_cmp nat_cmp l.objects m.objects) parts.1 in
    one (bools_equal l.positive m.positive parts.0) (numbers_equal l.pred m.pred inner.0) (lists_equal l.objects m.objects inner.1)
  where
    one : {a b : Bool} {p q : ℕ} {os us : List ℕ} → a ≡ b → p ≡ q → os ≡ us → ground a p os ≡ ground b q us
    one e f g = cc (e, f, g)

-- two literals are one where neither comes first
ties : (a b : BoundLit) → same_lit a b ≡ eq_by_cmp (on lit_view lit_cmp) a b
ties a b =
    bool_same (same_lit a b) (is_eq (lit_cmp (lit_view a) (lit_view b)))
    (λ h. subst (λ z. is_eq (lit_cmp (lit_view a) z) ≡ true) (same_literal-true (lit_view a) (lit_view b) h) (ap is_eq (tied_itself lit_cmp-total (lit_view a))))
    (λ h. subst (λ z. same_literal (lit_view a) z ≡ true) (literals_equal (lit_view a) (lit_view b) ((Equal-is (lit_cmp (lit_view a) (lit_view b))).0 h)) (same_literal-refl (lit_view a)))

order : IsTotalOrder (on lit_view lit_cmp)
order = on_total lit_view lit_cmp-total

equivalence : IsEquivalence same_lit
equivalence = record {
  refl = λ a. same_literal-refl (lit_view a);
  symm = λ a b. same_literal-symm (lit_view a) (lit_view b);
  congr = λ a b c h. ap (λ z. same_literal z (lit_view c)) (same_literal-true (lit_view a) (lit_view b) h);
}

-- ---- what a view of an ascending list is

after_view : (a : BoundLit) (ls : List BoundLit) → AllByRecursion (λ b. on lit_view lit_cmp a b ≡ Less) ls → AllByRecursion (λ m. lit_cmp (lit_view a) m ≡ Less) (map lit_view ls)
after_view a [] h = tt
after_view a (b ∷ ls) h = (h.0, after_view a ls h.1)

ascending_view : (ls : List BoundLit) → IsStrictlySortedBy (on lit_view lit_cmp) ls → IsStrictlySortedBy lit_cmp (map lit_view ls)
unfolding IsStrictlySortedBy
ascending_view [] h = tt
ascending_view (a ∷ ls) h = (after_view a ls h.0, ascending_view ls h.1)

-- ---- members

module _ (ls sorted : List BoundLit) (moved : IsPermutation ls sorted) (m : GroundLit) where
  abbrev test : BoundLit → Bool
  test a = same_literal m (lit_view a)

  kept : list_any test ls ≡ true → list_any test (dedup same_lit sorted) ≡ true
  kept h =
      let r = any_member test ls h in
      let there = Any-dedup equivalence sorted r.0 (Contains-permutation ls sorted r.0 moved (member_contains ls r.0 r.1)) in
      any_from test (dedup same_lit sorted) there.1 (contains_member (dedup same_lit sorted) there.1 (there.0, there.2, there.3))
      (subst (λ z. same_literal m z ≡ true) (same_literal-true (lit_view r.0) (lit_view there.1) there.4) r.2)

  only : list_any test (dedup same_lit sorted) ≡ true → list_any test ls ≡ true
  only h =
      let r = any_member test (dedup same_lit sorted) h in
      let there = Contains-permutation sorted ls r.0 (IsPermutation-sym ls sorted moved) (Contains-from_dedup same_lit sorted r.0 (member_contains (dedup same_lit sorted) r.0 r.1)) in
      any_from test ls r.0 (contains_member ls r.0 there) r.2

  same_names : names_literal (map lit_view (dedup same_lit sorted)) m ≡ names_literal (map lit_view ls) m
  same_names =
      any_map lit_view (same_literal m) test (dedup same_lit sorted) (λ a. refl)
      ∙ (bool_same (list_any test (dedup same_lit sorted)) (list_any test ls) only kept
      ∙ sym (any_map lit_view (same_literal m) test ls (λ a. refl)))

-- sorted and without repeats it is the set
pub set_made : (ls sorted : List BoundLit) → IsPermutation ls sorted → IsSorted (on lit_view lit_cmp) sorted → IsSetOf (map lit_view (dedup same_lit sorted)) (map lit_view ls)
set_made ls sorted moved up = record {
  ascending = ascending_view (dedup same_lit sorted) (IsStrictlySortedBy-dedup order ties sorted up);
  members = same_names ls sorted moved;
}
