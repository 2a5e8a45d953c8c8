-- The clauses that say that exactly one of some literals holds.
use Rattle.std.proofs.Common.{◌≡◌, Bool, true, false, not, ◌&&◌, ◌||◌, List, [], ◌∷◌, refl, sym, ap, subst, map, ◌∙◌, inl, inr}
use Rattle.std.specs.List.{list_any, list_all}
use Rattle.std.proofs.lemmas.Bool.{and_parts, and_from, or_left, or_right, both_ways, not-true, false_from_ne_true}
use Rattle.std.proofs.lemmas.List.Folds.{list_all-append}
use Rattle.std.proofs.Math.Bool.{or-false}
use Rattle.kp_base.specs.declared.lit.Lit.{Lit}
use Rattle.kp_base.specs.Planning.{Member, each_once, negated, same_lit, set_of, State, holds}
use Rattle.kp_base.proofs.Lists.{any_member, any_from, all_member, bool_same, all_from}
use Rattle.kp_base.proofs.Lits.{same_lit-true, same_lit-refl, holds-negated}
use Rattle.kp_base.proofs.Once.{any-each_once, all-each_once, Once, each_once_is_once}
use Rattle.kp_base.proofs.Sets.{any-set_of}
use Rattle.kp_init.specs.Initial.{no_two, exactly_one}

-- at most one place of the list passes
abbrev at_most_one : (Lit → Bool) → List Lit → Bool
at_most_one k [] = true
at_most_one k (x ∷ xs) = (not (k x) || not (list_any k xs)) && at_most_one k xs

pairs_hold : (g : State) (c : List Lit) → list_all (list_any (holds g)) (no_two c) ≡ at_most_one (holds g) c
pairs_hold g [] = refl
pairs_hold g (x ∷ xs) =
    list_all-append (list_any (holds g)) (map (λ y. set_of (negated x ∷ negated y ∷ [])) xs) (no_two xs)
    ∙ rw (pairs_hold g xs) (ap (λ t. t && at_most_one (holds g) xs) (with_x xs))
  where
    pair : (y : Lit) → list_any (holds g) (set_of (negated x ∷ negated y ∷ [])) ≡ (not (holds g x) || not (holds g y))
    pair y = any-set_of (holds g) (negated x ∷ negated y ∷ []) ∙ rw (holds-negated g x, holds-negated g y) (ap (λ t. not (holds g x) || t) (or-false (not (holds g y))))

    laws : (a b c : Bool) → ((not a || not b) && (not a || not c)) ≡ (not a || not (b || c))
    laws true true c = refl
    laws true false c = refl
    laws false b c = refl

    all_or : (a : Bool) → (not a || true) ≡ true
    all_or true = refl
    all_or false = refl

    with_x : (ys : List Lit) → list_all (list_any (holds g)) (map (λ y. set_of (negated x ∷ negated y ∷ [])) ys) ≡ (not (holds g x) || not (list_any (holds g) ys))
    with_x [] = sym (all_or (holds g x))
    with_x (y ∷ ys) = rw (pair y, with_x ys) (laws (holds g x) (holds g y) (list_any (holds g) ys))

-- each literal that passes is this one
abbrev pub is_only : (Lit → Bool) → List Lit → Lit → Bool
is_only k c l = list_all (λ m. not (k m) || same_lit l m) c

-- from at most one: any that passes is the only one
one_from : (k : Lit → Bool) (c : List Lit) → at_most_one k c ≡ true → (l : Lit) → Member c l → k l ≡ true → is_only k c l ≡ true
one_from k [] h l m g = absurd m
one_from k (x ∷ xs) h l m g =
    let parts = and_parts (not (k x) || not (list_any k xs)) (at_most_one k xs) h in
    elim m [
      | inl e ↦
          let kx : k x ≡ true = subst (λ z. k z ≡ true) (sym e) g in
          let none : list_any k xs ≡ false = not-true (list_any k xs) (ap (λ t. not t || not (list_any k xs)) (sym kx) ∙ parts.0) in
          and_from (not (k x) || same_lit l x) (is_only k xs l)
          (or_right (not (k x)) (same_lit l x) (subst (λ z. same_lit l z ≡ true) (sym e) (same_lit-refl l)))
          (all_from (λ m. not (k m) || same_lit l m) xs (λ y i. or_left (not (k y)) (same_lit l y) (ap not (false_from_ne_true (k y) (λ ky. both_ways (list_any k xs) none (any_from k xs y i ky))))))
      | inr r ↦
          let some = any_from k xs l r g in
          let kx : k x ≡ false = false_from_ne_true (k x) (λ kx. both_ways (not (list_any k xs)) (ap not some) (ap (λ t. not t || not (list_any k xs)) (sym kx) ∙ parts.0)) in
          and_from (not (k x) || same_lit l x) (is_only k xs l)
          (or_left (not (k x)) (same_lit l x) (ap not kx))
          (one_from k xs parts.1 l r g)
    ]

-- and back, where no literal stands twice
one_to : (k : Lit → Bool) (c : List Lit) → Once same_lit c → (l : Lit) → is_only k c l ≡ true → at_most_one k c ≡ true
one_to k [] o l h = refl
one_to k (x ∷ xs) o l h =
    let parts = and_parts (not (k x) || same_lit l x) (is_only k xs l) h in
    and_from (not (k x) || not (list_any k xs)) (at_most_one k xs) (pick (k x) refl parts.0 parts.1) (one_to k xs o.1 l parts.1)
  where
    pick : (t : Bool) → k x ≡ t → (not (k x) || same_lit l x) ≡ true → is_only k xs l ≡ true → (not t || not (list_any k xs)) ≡ true
    pick false is first rest = refl
    pick true is first rest =
        let lx : same_lit l x ≡ true = ap (λ t. not t || same_lit l x) (sym is) ∙ first in
        ap not (false_from_ne_true (list_any k xs) (λ some.
        let y = any_member k xs some in
        let other = all_member (λ m. not (k m) || same_lit l m) xs y.0 y.1 rest in
        let ly : same_lit l y.0 ≡ true = ap (λ t. not t || same_lit l y.0) (sym y.2) ∙ other in
        let e = same_lit-true l x lx in
        both_ways (list_any (same_lit x) xs) o.0 (any_from (same_lit x) xs y.0 y.1 (subst (λ z. same_lit z y.0 ≡ true) e ly))))

-- some literal holds, and each that holds is that one
pub exactly_one_holds : (g : State) (ls : List Lit) → list_all (list_any (holds g)) (exactly_one ls) ≡ list_any (λ l. holds g l && is_only (holds g) ls l) ls
exactly_one_holds g ls =
    rw (any-set_of (holds g) ls, pairs_hold g (each_once same_lit ls))
    (bool_same (list_any (holds g) ls && at_most_one (holds g) (each_once same_lit ls)) (list_any (λ l. holds g l && is_only (holds g) ls l) ls)
    (λ h.
    let parts = and_parts (list_any (holds g) ls) (at_most_one (holds g) (each_once same_lit ls)) h in
    let l = any_member (holds g) (each_once same_lit ls) (any_once (holds g) ∙ parts.0) in
    let only = one_from (holds g) (each_once same_lit ls) parts.1 l.0 l.1 l.2 in
    sym (any_once (λ l. holds g l && is_only (holds g) ls l))
    ∙ any_from (λ l. holds g l && is_only (holds g) ls l) (each_once same_lit ls) l.0 l.1 (and_from (holds g l.0) (is_only (holds g) ls l.0) l.2 (sym (all_once (λ m. not (holds g m) || same_lit l.0 m)) ∙ only)))
    (λ h.
    let l = any_member (λ l. holds g l && is_only (holds g) ls l) ls h in
    let parts = and_parts (holds g l.0) (is_only (holds g) ls l.0) l.2 in
    and_from (list_any (holds g) ls) (at_most_one (holds g) (each_once same_lit ls))
    (any_from (holds g) ls l.0 l.1 parts.0)
    (one_to (holds g) (each_once same_lit ls) (each_once_is_once same_lit ls) l.0 (all_once (λ m. not (holds g m) || same_lit l.0 m) ∙ parts.1))))
  where
    any_once : (p : Lit → Bool) → list_any p (each_once same_lit ls) ≡ list_any p ls
    any_once p = any-each_once same_lit p (λ x y h. ap p (same_lit-true x y h)) ls

    all_once : (p : Lit → Bool) → list_all p (each_once same_lit ls) ≡ list_all p ls
    all_once p = all-each_once same_lit p (λ x y h. ap p (same_lit-true x y h)) ls
