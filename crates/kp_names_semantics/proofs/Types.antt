-- The test of types decides the relation.
use Rattle.std.proofs.Common.{◌≡◌, ℕ, Bool, true, ◌&&◌, ◌||◌, List, [], ◌∷◌, refl, sym, ap, subst, ◌∙◌, inl, inr, zero, suc, ◌⊎◌, length, arith}
use Rattle.std.specs.List.{list_any}
use Rattle.std.proofs.lemmas.Bool.{and_parts, and_from, or_cases, or_left, or_right}
use Rattle.kp_tree_grammar.specs.declared.tree.Word.{Word}
use Rattle.kp_tree_grammar.specs.Trees.{Typed}
use Rattle.kp_base.specs.Lists.{Member}
use Rattle.kp_names_semantics.specs.Names.{Name, same}
use Rattle.kp_names_semantics.specs.Types.{object, types_of, IsBelow, itself, root, parent, onward, leads, below_within, IsTypeTestExact}
use Rattle.kp_names_semantics.proofs.Lists.{any_member, any_from, any_weaker, same-true, same-refl}

-- ---- the relation as a chain of lines

data Chain (kinds : List (Typed Word)) : Name → Name → Type 0 where
  here : {t : Name} → Chain kinds t t
  top : {t : Name} → Chain kinds t object
  line : (x : Typed Word) (p : Name) {t u : Name} → Member kinds x → Member (types_of x) p → leads x t ≡ true → Chain kinds p u → Chain kinds t u

own : (x : Typed Word) → leads x x.word.text ≡ true
own x = or_left (same x.word.text x.word.text) (same x.word.text object) (same-refl x.word.text)

from_top : (kinds : List (Typed Word)) (t : Name) {o v : Name} → Chain kinds o v → o ≡ object → Chain kinds t v
from_top kinds t here e = subst (λ z. Chain kinds t z) (sym e) top
from_top kinds t top e = top
from_top kinds t {o = o} (line x p m parent' l rest) e = line x p m parent' (elim (or_cases (same x.word.text o) (same x.word.text object) l) [
  | inl h ↦ or_right (same x.word.text t) (same x.word.text object) (subst (λ z. same x.word.text z ≡ true) e h)
  | inr h ↦ or_right (same x.word.text t) (same x.word.text object) h
]) rest

joined : (kinds : List (Typed Word)) {t u v : Name} → Chain kinds t u → Chain kinds u v → Chain kinds t v
joined kinds here c = c
joined kinds {t = t} top c = from_top kinds t c refl
joined kinds (line x p m parent' l rest) c = line x p m parent' l (joined kinds rest c)

chain : (kinds : List (Typed Word)) (t u : Name) → IsBelow kinds t u → Chain kinds t u
chain kinds t u itself = here
chain kinds t u root = top
chain kinds t u (parent x p m parent') = line x p m parent' (own x) here
chain kinds t v (onward {u = u} a b) = joined kinds (chain kinds t u a) (chain kinds u v b)

-- ---- a test that holds

at_once : (kinds : List (Typed Word)) (t u : Name) → (same t u || same u object) ≡ true → IsBelow kinds t u
at_once kinds t u h = elim (or_cases (same t u) (same u object) h) [
  | inl e ↦ subst (IsBelow kinds t) (same-true t u e) itself
  | inr e ↦ subst (IsBelow kinds t) (sym (same-true u object e)) root
]

by_line : (kinds : List (Typed Word)) (x : Typed Word) (p t : Name) → Member kinds x → Member (types_of x) p → leads x t ≡ true → IsBelow kinds t p
by_line kinds x p t m parent' l = elim (or_cases (same x.word.text t) (same x.word.text object) l) [
  | inl h ↦ subst (λ z. IsBelow kinds z p) (same-true x.word.text t h) (parent x p m parent')
  | inr h ↦ onward root (subst (λ z. IsBelow kinds z p) (same-true x.word.text object h) (parent x p m parent'))
]

goes_on : ℕ → List (Typed Word) → Name → Name → Typed Word → Bool
goes_on n kinds t u x = leads x t && list_any (λ p. below_within n kinds p u) (types_of x)

sound : (n : ℕ) (kinds : List (Typed Word)) (t u : Name) → below_within n kinds t u ≡ true → IsBelow kinds t u
unfolding goes_on
sound zero kinds t u h = at_once kinds t u h
sound (suc n) kinds t u h =
    elim (or_cases (same t u || same u object) (list_any (goes_on n kinds t u) kinds) h) [
      | inl e ↦ at_once kinds t u e
      | inr e ↦
          let r = any_member (goes_on n kinds t u) kinds e in
          let parts = and_parts (leads r.0 t) (list_any (λ p. below_within n kinds p u) (types_of r.0)) r.2 in
          let q = any_member (λ p. below_within n kinds p u) (types_of r.0) parts.1 in
          onward (by_line kinds r.0 q.0 t r.1 q.1 parts.0) (sound n kinds q.0 u q.2)
    ]

-- ---- a line is needed once

without : {X : Type 0} (xs : List X) (x : X) → Member xs x → List X
without [] x m = absurd m
without (y ∷ ys) x m = elim m [ inl e ↦ ys | inr r ↦ y ∷ without ys x r ]

length_without : {X : Type 0} (xs : List X) (x : X) (m : Member xs x) → suc (length (without xs x m)) ≡ length xs
unfolding without
length_without [] x m = absurd m
length_without (y ∷ ys) x (inl e) = refl
length_without (y ∷ ys) x (inr r) = ap suc (length_without ys x r)

other_member : {X : Type 0} (xs : List X) (x : X) (m : Member xs x) (y : X) → Member xs y → (x ≡ y) ⊎ Member (without xs x m) y
unfolding without
other_member [] x m y h = absurd h
other_member (z ∷ zs) x (inl e) y (inl f) = inl (sym e ∙ f)
other_member (z ∷ zs) x (inl e) y (inr g) = inr g
other_member (z ∷ zs) x (inr r) y (inl f) = inr (inl f)
other_member (z ∷ zs) x (inr r) y (inr g) = elim (other_member zs x r y g) [ inl e ↦ inl e | inr h ↦ inr (inr h) ]

without_member : {X : Type 0} (xs : List X) (x : X) (m : Member xs x) (y : X) → Member (without xs x m) y → Member xs y
unfolding without
without_member [] x m y h = absurd m
without_member (z ∷ zs) x (inl e) y h = inr h
without_member (z ∷ zs) x (inr r) y (inl f) = inl f
without_member (z ∷ zs) x (inr r) y (inr g) = inr (without_member zs x r y g)

-- a chain that doesn't use the line, or one that doesn't from one of its parents on
cut : (kinds : List (Typed Word)) (x : Typed Word) (m : Member kinds x) (t u : Name) → Chain kinds t u → Chain (without kinds x m) t u ⊎ ((q : Name) × Member (types_of x) q × Chain (without kinds x m) q u)
cut kinds x m t u here = inl here
cut kinds x m t u top = inl top
cut kinds x m t u (line y p in' parent' l rest) =
    elim (other_member kinds x m y in') [
      | inl e ↦ elim (cut kinds x m p u rest) [
        | inl r ↦ inr (p, subst (λ z. Member (types_of z) p) (sym e) parent', r)
        | inr r ↦ inr r
      ]
      | inr i ↦ elim (cut kinds x m p u rest) [
        | inl r ↦ inl (line y p i parent' l r)
        | inr r ↦ inr r
      ]
    ]

-- more lines lose nothing
more_lines : (n : ℕ) (ks ls : List (Typed Word)) → ((x : Typed Word) → Member ks x → Member ls x) → (t u : Name) → below_within n ks t u ≡ true → below_within n ls t u ≡ true
unfolding goes_on
more_lines zero ks ls f t u h = h
more_lines (suc n) ks ls f t u h =
    elim (or_cases (same t u || same u object) (list_any (goes_on n ks t u) ks) h) [
      | inl e ↦ or_left (same t u || same u object) (list_any (goes_on n ls t u) ls) e
      | inr e ↦
          let r = any_member (goes_on n ks t u) ks e in
          let parts = and_parts (leads r.0 t) (list_any (λ p. below_within n ks p u) (types_of r.0)) r.2 in
          or_right (same t u || same u object) (list_any (goes_on n ls t u) ls)
          (any_from (goes_on n ls t u) ls r.0 (f r.0 r.1)
          (and_from (leads r.0 t) (list_any (λ p. below_within n ls p u) (types_of r.0)) parts.0
          (any_weaker (λ p. below_within n ks p u) (λ p. below_within n ls p u) (types_of r.0) (λ p i g. more_lines n ks ls f p u g) parts.1)))
    ]

at_first : (n : ℕ) (kinds : List (Typed Word)) (t u : Name) → (same t u || same u object) ≡ true → below_within n kinds t u ≡ true
unfolding goes_on
at_first zero kinds t u h = h
at_first (suc n) kinds t u h = or_left (same t u || same u object) (list_any (goes_on n kinds t u) kinds) h

complete : (n : ℕ) (kinds : List (Typed Word)) (t u : Name) → length kinds ≡ n → Chain kinds t u → below_within n kinds t u ≡ true
unfolding goes_on
complete n kinds t u size here = at_first n kinds t t (or_left (same t t) (same t object) (same-refl t))
complete n kinds t u size top = at_first n kinds t object (or_right (same t object) (same object object) (same-refl object))
complete zero kinds t u size (line x p in' parent' l rest) = absurd (none kinds size in')
  where
    none : (ks : List (Typed Word)) → length ks ≡ 0 → Member ks x → ⊥
    none [] e m = m
    none (k ∷ ks) e m = absurd (omega arith)
complete (suc n) kinds t u size (line x p in' parent' l rest) =
    let q = elim (cut kinds x in' p u rest) as (λ z. (q : Name) × Member (types_of x) q × Chain (without kinds x in') q u) [ inl r ↦ (p, parent', r) | inr r ↦ r ] in
    let size' : length (without kinds x in') ≡ n = omega (arith, length_without kinds x in') in
    let below = more_lines n (without kinds x in') kinds (λ y m. without_member kinds x in' y m) q.0 u (complete n (without kinds x in') q.0 u size' q.2) in
    or_right (same t u || same u object) (list_any (goes_on n kinds t u) kinds)
    (any_from (goes_on n kinds t u) kinds x in'
    (and_from (leads x t) (list_any (λ p. below_within n kinds p u) (types_of x)) l
    (any_from (λ p. below_within n kinds p u) (types_of x) q.0 q.1 below)))

pub type_test_exact : IsTypeTestExact
type_test_exact kinds t u = (sound (length kinds) kinds t u, λ b. complete (length kinds) kinds t u refl (chain kinds t u b))
