-- When two effects are one, and when two ascending lists are.
use Rattle.std.proofs.Common.{◌≡◌, ◌⊎◌, true, List, [], ◌∷◌, refl, sym, ap, subst, ◌∙◌, inl, inr}
use Rattle.std.specs.declared.cmp.Ordering.TheVariants.{Less, Equal}
use Rattle.std.specs.Ordering.{ordering_reverse, is_eq}
use Rattle.std.specs.Cmp.{IsEquivalence, IsTotalOrder, then_total, on_total, nat_cmp_total, bool_cmp_total}
use Rattle.std.specs.Cmp.Lexicographic.{lists_total}
use Rattle.std.specs.List.{list_all, AllByRecursion}
use Rattle.std.specs.List.Sorted.{IsStrictlySortedBy}
use Rattle.std.proofs.lemmas.Bool.{and_parts, and_from, false≢true}
use Rattle.std.proofs.lemmas.Cmp.{tied_itself}
use Rattle.std.proofs.lemmas.Map.Keys.{sorted_head, sorted_tail}
use Rattle.kp_base.specs.Lists.{Member}
use Rattle.kp_base.proofs.Lists.{bool_same, any_from, same_member, all_from, all_member}
use Rattle.kp_names_semantics.specs.declared.lifted.GroundLit.{GroundLit}
use Rattle.kp_names_semantics.specs.Lifted.{same_literal, names_literal}
use Rattle.kp_ground_semantics.specs.declared.flat.FlatEffect.{FlatEffect}
use Rattle.kp_ground_semantics.specs.Flattening.{same_literals, same_flat}
use Rattle.kp_ground_semantics.proofs.Public.{same_literal-true, same_literal-refl}
use Rattle.kp_ground_flatten.specs.Shapes.{lit_cmp, IsSetOf}

-- ---- literals

pub same_literal-symm : (l m : GroundLit) → same_literal l m ≡ same_literal m l
same_literal-symm l m = bool_same (same_literal l m) (same_literal m l) (λ h. turned l m (same_literal-true l m h)) (λ h. turned m l (same_literal-true m l h))
  where
    turned : (l m : GroundLit) → l ≡ m → same_literal m l ≡ true
    turned l m e = subst (λ z. same_literal m z ≡ true) (sym e) (same_literal-refl m)

-- a member is named
pub names_member : (ms : List GroundLit) (m : GroundLit) → Member ms m → names_literal ms m ≡ true
names_member ms m i = any_from (same_literal m) ms m i (same_literal-refl m)

-- what is named is a member
pub member_named : (ms : List GroundLit) (m : GroundLit) → names_literal ms m ≡ true → Member ms m
member_named = same_member same_literal same_literal-true

-- ---- effects

-- the same result, and the same literals as conditions
pub record AreAlike (f g : FlatEffect) : Type 0 where
  pub result : f.result ≡ g.result
  pub members : (m : GroundLit) → names_literal f.cond m ≡ names_literal g.cond m

pub within_named : (ls ms : List GroundLit) → list_all (names_literal ms) ls ≡ true → (m : GroundLit) → names_literal ls m ≡ true → names_literal ms m ≡ true
within_named ls ms h m named = all_member (names_literal ms) ls m (member_named ls m named) h

pub alike_from : (f g : FlatEffect) → same_flat f g ≡ true → AreAlike f g
alike_from f g h =
    let parts = and_parts (same_literal f.result g.result) (same_literals f.cond g.cond) h in
    let both = and_parts (list_all (names_literal g.cond) f.cond) (list_all (names_literal f.cond) g.cond) parts.1 in
    record {
      result = same_literal-true f.result g.result parts.0;
      members = λ m. bool_same (names_literal f.cond m) (names_literal g.cond m) (within_named f.cond g.cond both.0 m) (within_named g.cond f.cond both.1 m);
    }

pub alike_to : (f g : FlatEffect) → AreAlike f g → same_flat f g ≡ true
alike_to f g a =
    and_from (same_literal f.result g.result) (same_literals f.cond g.cond)
    (subst (λ z. same_literal f.result z ≡ true) a.result (same_literal-refl f.result))
    (and_from (list_all (names_literal g.cond) f.cond) (list_all (names_literal f.cond) g.cond)
    (all_from (names_literal g.cond) f.cond (λ m i. sym (a.members m) ∙ names_member f.cond m i))
    (all_from (names_literal f.cond) g.cond (λ m i. a.members m ∙ names_member g.cond m i)))

alike_turned : (f g : FlatEffect) → AreAlike f g → AreAlike g f
alike_turned f g a = record { result = sym a.result; members = λ m. sym (a.members m) }

alike_joined : (f g h : FlatEffect) → AreAlike f g → AreAlike g h → AreAlike f h
alike_joined f g h a b = record { result = a.result ∙ b.result; members = λ m. a.members m ∙ b.members m }

pub same_flat-equivalence : IsEquivalence same_flat
same_flat-equivalence = record {
  refl = λ f. alike_to f f (record { result = refl; members = λ m. refl });
  symm = λ f g. bool_same (same_flat f g) (same_flat g f) (λ h. alike_to g f (alike_turned f g (alike_from f g h))) (λ h. alike_to f g (alike_turned g f (alike_from g f h)));
  congr = λ f g h e.
      let a = alike_from f g e in
      bool_same (same_flat f h) (same_flat g h)
      (λ i. alike_to g h (alike_joined g f h (alike_turned f g a) (alike_from f h i)))
      (λ i. alike_to f h (alike_joined f g h a (alike_from g h i)));
}

-- ---- ascending lists

pub lit_cmp-total : IsTotalOrder lit_cmp
lit_cmp-total = then_total (on_total (λ (m : GroundLit). m.positive) bool_cmp_total) (then_total (on_total (λ (m : GroundLit). m.pred) nat_cmp_total) (on_total (λ (m : GroundLit). m.objects) (lists_total nat_cmp_total)))

-- what comes first isn't the same
not_before : (l m : GroundLit) → lit_cmp l m ≡ Less → l ≡ m → ⊥
not_before l m before same = false≢true (sym (ap is_eq before) ∙ ap is_eq (subst (λ z. lit_cmp l z ≡ Equal) same (tied_itself lit_cmp-total l)))

-- two literals don't come before each other
one_way : (l m : GroundLit) → lit_cmp l m ≡ Less → lit_cmp m l ≡ Less → ⊥
one_way l m before after = cc (before, lit_cmp-total.antisymm l m, ap ordering_reverse after)

-- the literals behind the first come after it
above : (l : GroundLit) (ms : List GroundLit) → AllByRecursion (λ m. lit_cmp l m ≡ Less) ms → (m : GroundLit) → Member ms m → lit_cmp l m ≡ Less
above l [] h m i = absurd i
above l (x ∷ ms) h m i = elim i [
  | inl e ↦ subst (λ z. lit_cmp l z ≡ Less) e h.0
  | inr r ↦ above l ms h.1 m r
]

module _ (x y : GroundLit) (xs ys : List GroundLit) (up : IsStrictlySortedBy lit_cmp (x ∷ xs)) (to : (m : GroundLit) → Member (x ∷ xs) m → Member (y ∷ ys) m) where
  -- the first literal of the other list doesn't come after that of this one
  first_not_above : IsStrictlySortedBy lit_cmp (y ∷ ys) → (x ≡ y) ⊎ (lit_cmp y x ≡ Less)
  first_not_above up_too = elim (to x (inl refl)) [
    | inl e ↦ inl (sym e)
    | inr r ↦ inr (above y ys (sorted_head lit_cmp y ys up_too) x r)
  ]

  -- where the two begin alike, the rest of this list is within the rest of the other
  rest_within : x ≡ y → (m : GroundLit) → Member xs m → Member ys m
  rest_within same m i = elim (to m (inr i)) [
    | inl e ↦ absurd (not_before x m (above x xs (sorted_head lit_cmp x xs up) m i) (same ∙ e))
    | inr r ↦ r
  ]

-- ascending lists with the same members are one
pub one_set : (xs ys : List GroundLit) → IsStrictlySortedBy lit_cmp xs → IsStrictlySortedBy lit_cmp ys → ((m : GroundLit) → Member xs m → Member ys m) → ((m : GroundLit) → Member ys m → Member xs m) → xs ≡ ys
one_set [] [] up up_too to fro = refl
one_set [] (y ∷ ys) up up_too to fro = absurd (fro y (inl refl))
one_set (x ∷ xs) [] up up_too to fro = absurd (to x (inl refl))
one_set (x ∷ xs) (y ∷ ys) up up_too to fro =
    let same : x ≡ y = elim (first_not_above x y xs ys up to up_too) [
      | inl e ↦ e
      | inr before ↦ elim (first_not_above y x ys xs up_too fro up) [
        | inl e ↦ sym e
        | inr after ↦ absurd (one_way y x before after)
      ]
    ] in
    let rest : xs ≡ ys = one_set xs ys (sorted_tail lit_cmp x xs up) (sorted_tail lit_cmp y ys up_too) (rest_within x y xs ys up to same) (rest_within y x ys xs up_too fro (sym same)) in
    cc (same, rest)

-- sets of lists that name the same literals are one
pub sets_are_one : (s t ls ms : List GroundLit) → IsSetOf s ls → IsSetOf t ms → ((m : GroundLit) → names_literal ls m ≡ names_literal ms m) → s ≡ t
sets_are_one s t ls ms set set_too alike =
    let named : (m : GroundLit) → names_literal s m ≡ names_literal t m = λ m. set.members m ∙ (alike m ∙ sym (set_too.members m)) in
    one_set s t set.ascending set_too.ascending
    (λ m i. member_named t m (sym (named m) ∙ names_member s m i))
    (λ m i. member_named s m (named m ∙ names_member t m i))
