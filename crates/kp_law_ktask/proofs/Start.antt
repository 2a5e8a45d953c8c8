-- What holds at the start is what the machine knows there, and what a merge's operator does is what the merge does.
use Rattle.std.proofs.Common.{◌≡◌, ◌<◌, ◌≤◌, ◌+◌, ◌^◌, ℕ, zero, suc, Bool, true, false, ◌&&◌, ◌||◌, List, [], ◌∷◌, ◌++◌, Some, map, length, slice_get, nat_eq, refl, ap, ◌∙◌, arith}
use Rattle.std.proofs.lemmas.Bool.Decides.{nat_tests}
use Rattle.std.specs.List.{AllByRecursion, IsDistinct, list_all}
use Rattle.kp_base.specs.declared.lit.Lit.{Lit}
use Rattle.kp_base.specs.declared.ground.GroundName.{GroundName}
use Rattle.kp_base.specs.declared.ground.TagRow.{TagRow}
use Rattle.kp_base.specs.declared.ground.Merge.{Merge}
use Rattle.kp_base.specs.Lit.{same_lit}
use Rattle.kp_base.specs.Steps.{has}
use Rattle.kp_base.specs.Machine.{Known, closure_of, after_merge}
use Rattle.kp_names_semantics.specs.Names.{same, is_among}
use Rattle.kp_names_semantics.specs.GroundNames.{IsGroundName, same_name}
use Rattle.kp_write.specs.Facts.{fact_of}
use Rattle.kp_write.specs.Grounds.{IsOfAtom, AreOfAtoms}
use Rattle.kp_write.specs.Runs.{Facts, after_op}
use Rattle.kp_law_ktask.specs.Task.{Fact, name_of_fact, under, starts_from}
use Rattle.kp_law_ktask.specs.ByName.{merge_op}
use Rattle.kp_law_ktask.specs.Writable.{IsRowOn, IsTag}
use Rattle.kp_law_ktask.proofs.Facts.{same_fact, same_fact-turned, other_fact}
use Rattle.kp_law_ktask.proofs.Operators.{AgreeBelow}

among_append : (f : Fact → List ℕ) (xs ys : List Fact) (n : List ℕ) → is_among (map f (xs ++ ys)) n ≡ (is_among (map f xs) n || is_among (map f ys) n)
among_append f [] ys n = refl
among_append f (x ∷ xs) ys n = ap (λ t. same n (f x) || t) (among_append f xs ys n) ∙ assoc (same n (f x)) (is_among (map f xs) n) (is_among (map f ys) n) where
  assoc : (a b c : Bool) → (a || (b || c)) ≡ ((a || b) || c)
  assoc true b c = refl
  assoc false b c = refl

module _ (atoms : List GroundName) (names : AllByRecursion IsGroundName atoms) (differ : IsDistinct same_name atoms) where
  -- the fact of a literal under a tag is among those of a list where the literal is in the list
  under_has : (t : ℕ) → t < 2 ^ 64 → (ls : List Lit) → AreOfAtoms atoms ls → (l : Lit) → IsOfAtom atoms l → is_among (map (name_of_fact atoms) (under t ls)) (fact_of atoms t l) ≡ has ls l
  under_has t p [] h l b = refl
  under_has t p (m ∷ ms) h l b = rw (same_fact atoms names differ t p l m b h.0, under_has t p ms h.1 l b) refl

  under_none : (t u : ℕ) → t < 2 ^ 64 → u < 2 ^ 64 → (u ≡ t → ⊥) → (ls : List Lit) → AreOfAtoms atoms ls → (l : Lit) → IsOfAtom atoms l → is_among (map (name_of_fact atoms) (under t ls)) (fact_of atoms u l) ≡ false
  under_none t u p q apart [] h l b = refl
  under_none t u p q apart (m ∷ ms) h l b = rw (other_fact atoms names differ u t q p apart l m b h.0, under_none t u p q apart ms h.1 l b) refl

  start_none : (rows : List TagRow) → AllByRecursion (IsRowOn atoms) rows → (t u : ℕ) → u < t → t + length rows ≤ 2 ^ 64 → (l : Lit) → IsOfAtom atoms l → is_among (map (name_of_fact atoms) (starts_from t rows)) (fact_of atoms u l) ≡ false
  start_none [] h t u below fit l b = refl
  start_none (row ∷ rows) h t u below fit l b =
      among_append (name_of_fact atoms) (under t row.closure) (starts_from (suc t) rows) (fact_of atoms u l)
      ∙ rw (under_none t u (omega (arith, below, fit)) (omega (arith, below, fit)) (λ e. omega (arith, below, e)) row.closure h.0.closure l b, start_none rows h.1 (suc t) u (omega (arith, below)) (omega (arith, fit)) l b) refl

  pub start_has : (rows : List TagRow) → AllByRecursion (IsRowOn atoms) rows → (t d u : ℕ) → u ≡ t + d → d < length rows → t + length rows ≤ 2 ^ 64 → (l : Lit) → IsOfAtom atoms l → is_among (map (name_of_fact atoms) (starts_from t rows)) (fact_of atoms u l) ≡ has (closure_of (slice_get rows d)) l
  start_has [] h t d u e less fit l b = absurd (omega (arith, less))
  start_has (row ∷ rows) h t zero u e less fit l b =
      let here : t ≡ u = omega (arith, e) in
      among_append (name_of_fact atoms) (under t row.closure) (starts_from (suc t) rows) (fact_of atoms u l)
      ∙ rw (start_none rows h.1 (suc t) u (omega (arith, e)) (omega (arith, fit)) l b)
      (or_false (is_among (map (name_of_fact atoms) (under t row.closure)) (fact_of atoms u l))
      ∙ ap (λ x. is_among (map (name_of_fact atoms) (under x row.closure)) (fact_of atoms u l)) here
      ∙ under_has u (omega (arith, e, fit)) row.closure h.0.closure l b)
    where
      or_false : (a : Bool) → (a || false) ≡ a
      or_false true = refl
      or_false false = refl
  start_has (row ∷ rows) h t (suc d) u e less fit l b =
      among_append (name_of_fact atoms) (under t row.closure) (starts_from (suc t) rows) (fact_of atoms u l)
      ∙ rw (under_none t u (omega (arith, fit)) (omega (arith, e, less, fit)) (λ x. omega (arith, x, e)) row.closure h.0.closure l b)
      (start_has rows h.1 (suc t) d u (omega (arith, e)) (omega (arith, less)) (omega (arith, fit)) l b)

  -- ---- literals under a tag

  pub under_hold : (t : ℕ) (s : Facts) (k : Known) → ((l : Lit) → IsOfAtom atoms l → s (fact_of atoms t l) ≡ k t l) → (ls : List Lit) → AreOfAtoms atoms ls → list_all s (map (name_of_fact atoms) (under t ls)) ≡ list_all (k t) ls
  under_hold t s k agree [] h = refl
  under_hold t s k agree (l ∷ ls) h = rw (agree l h.0, under_hold t s k agree ls h.1) refl

  -- ---- merges

  pub target_known : (tags : ℕ) (s : Facts) (k : Known) → AgreeBelow atoms names differ tags s k → (l : Lit) → IsOfAtom atoms l → (ts : List ℕ) → AllByRecursion (IsTag tags) ts → list_all s (map (λ t. fact_of atoms t l) ts) ≡ list_all (λ t. k t l) ts
  target_known tags s k agree l b [] h = refl
  target_known tags s k agree l b (t ∷ ts) h = rw (agree t h.0.below l b, target_known tags s k agree l b ts h.1) refl

  pub merge_goes_on : (tags : ℕ) → tags < 2 ^ 64 → (s : Facts) (k : Known) → AgreeBelow atoms names differ tags s k → (m : ℕ) (x : Merge) → IsOfAtom atoms x.target → AgreeBelow atoms names differ tags (after_op (merge_op atoms m x) s) (after_merge (Some x) k)
  merge_goes_on tags fit s k agree m x target zero below l b =
      rw (same_fact-turned atoms names differ 0 (omega arith) l x.target b target, agree 0 below l b) (bools (k 0 l) (same_lit x.target l))
    where
      bools : (a b : Bool) → ((b || false) || (a && true)) ≡ (a || b)
      bools true true = refl
      bools true false = refl
      bools false true = refl
      bools false false = refl
  merge_goes_on tags fit s k agree m x target (suc u) below l b =
      let other : nat_eq (suc u) 0 ≡ false = grind (arith, nat_tests) in
      rw (other_fact atoms names differ (suc u) 0 (omega (arith, below, fit)) (omega arith) (λ e. omega (arith, e)) l x.target b target, agree (suc u) below l b, other) (bools (k (suc u) l))
    where
      bools : (a : Bool) → ((false || false) || (a && true)) ≡ (a || false)
      bools true = refl
      bools false = refl
