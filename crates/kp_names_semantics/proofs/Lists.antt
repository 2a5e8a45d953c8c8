-- Equality of names, and lemmas on lists, passed on from below.
use Rattle.std.proofs.Common.{◌≡◌, ℕ, true, List, [], ◌∷◌, refl}
use Rattle.std.specs.Cmp.{IsEquivalence, nat_eq_equiv}
use Rattle.std.specs.Cmp.Lexicographic.{lists_equiv}
use Rattle.std.proofs.lemmas.Bool.{and_parts, and_from, false≢true}
use Rattle.kp_base.specs.Lists.{Member}
use Rattle.kp_names_semantics.specs.Names.{Name, same, all_same, is_among}
pub use Rattle.kp_base.proofs.Lists.{any_weaker, any_from, any_member, bool_same, any_map, map_map, any_alike, all_alike, flat_alike, all_member, member_at, member_map, map_member, append_member, flat_member, filter_member, append_empty, flat_empty, same-true, same-refl}

pub same_names : IsEquivalence same
same_names = lists_equiv nat_eq_equiv

pub same-sym : (xs ys : List ℕ) → same xs ys ≡ same ys xs
same-sym = same_names.symm

pub all_same-true : (xs ys : List Name) → all_same xs ys ≡ true → xs ≡ ys
all_same-true [] [] h = refl
all_same-true [] (y ∷ ys) h = absurd (false≢true h)
all_same-true (x ∷ xs) [] h = absurd (false≢true h)
all_same-true (x ∷ xs) (y ∷ ys) h =
    let parts = and_parts (same x y) (all_same xs ys) h in
    let first = same-true x y parts.0 in
    let rest = all_same-true xs ys parts.1 in
    cc

pub all_same-refl : (xs : List Name) → all_same xs xs ≡ true
all_same-refl [] = refl
all_same-refl (x ∷ xs) = and_from (same x x) (all_same xs xs) (same-refl x) (all_same-refl xs)

pub among_member : (xs : List Name) (x : Name) → Member xs x → is_among xs x ≡ true
among_member xs x m = any_from (same x) xs x m (same-refl x)
