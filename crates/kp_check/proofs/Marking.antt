-- A model fails exactly where a literal that isn't known to be true in its turn is false there.
use Rattle.std.proofs.Common.{◌≡◌, ◌+◌, ◌++◌, ℕ, zero, suc, Bool, true, false, not, ◌&&◌, ◌||◌, if◌then◌else◌, nat_lt, List, [], ◌∷◌, length, fold, take, Option, Some, None, slice_get, refl, sym, ap, ◌∙◌, arith, ltb-true}
use Rattle.std.proofs.lemmas.Bool.{and_parts, and_from}
use Rattle.std.proofs.lemmas.List.Folds.{list_any-append, list_all-append}
use Rattle.std.specs.List.{list_any, list_all}
use Rattle.kp_base.specs.declared.lit.Lit.{Lit}
use Rattle.kp_base.specs.declared.ground.Action.{Action}
use Rattle.kp_base.specs.declared.ground.Ground.{Ground}
use Rattle.kp_base.specs.declared.ground.Initial.{Initial}
use Rattle.kp_base.specs.Steps.{State, holds, applicable, next, after, state_after, succeeds, pre_of}
use Rattle.kp_base.specs.Implicates.{are_below}
use Rattle.kp_base.proofs.Places.{none_past}
use Rattle.kp_primes_first_model.specs.declared.truth.Truth.{Truth}
use Rattle.kp_primes_first_model.specs.declared.truth.Truth.TheVariants.{Yes, No, Open}
use Rattle.kp_primes_first_model.specs.Truths.{IsTruth}
use Rattle.kp_check.specs.declared.failing.At.{At}
use Rattle.kp_check.specs.Values.{truth_at, next_values, start}
use Rattle.kp_check.specs.Marks.{is_yes, with_open, open_marks, are_marks_below, AreInEach, AreMarks}
use Rattle.kp_check.proofs.Fitting.{Fits, start_fits, truth_at_is}
use Rattle.kp_check.proofs.Grounded.{IsGroundOf, action_parts, next_fits}

or_empty : (a : Bool) → (a || false) ≡ a
or_empty true = refl
or_empty false = refl

-- ---- the marks are below

marks_one : (n : ℕ) (vs : List Truth) (k : ℕ) (ms : List At) (l : Lit) → nat_lt l.atom.0 n ≡ true → are_marks_below n ms ≡ true → are_marks_below n (with_open vs k ms l) ≡ true
marks_one n vs k ms l lt h = pick (is_yes (truth_at vs l))
  where
    m : At
    m = record { step = k; literal = l }

    alone : (a : Bool) → a ≡ true → (a && true) ≡ true
    alone true e = refl
    alone false e = e

    pick : (b : Bool) → are_marks_below n (if b then ms else ms ++ m ∷ []) ≡ true
    pick true = h
    pick false = list_all-append (λ x. nat_lt x.literal.atom.0 n) ms (m ∷ []) ∙ and_from (are_marks_below n ms) (are_marks_below n (m ∷ [])) h (alone (nat_lt l.atom.0 n) lt)

marks_all : (n : ℕ) (vs : List Truth) (k : ℕ) (ls : List Lit) (ms : List At) → are_below n ls ≡ true → are_marks_below n ms ≡ true → are_marks_below n (fold (with_open vs k) ms ls) ≡ true
marks_all n vs k [] ms below h = h
marks_all n vs k (l ∷ ls) ms below h =
    let parts = and_parts (nat_lt l.atom.0 n) (are_below n ls) below in
    marks_all n vs k ls (with_open vs k ms l) parts.1 (marks_one n vs k ms l parts.0 h)

marks_below : (n : ℕ) (g : Ground) → IsGroundOf n g → (ns : List ℕ) (vs : List Truth) (k : ℕ) (ms : List At) → are_marks_below n ms ≡ true → are_marks_below n (open_marks g vs ns k ms) ≡ true
marks_below n g of [] vs k ms h = marks_all n vs k g.goal ms of.goal h
marks_below n g of (m ∷ ns) vs k ms h = marks_below n g of ns (next_values (slice_get g.actions m) vs) (k + 1) (fold (with_open vs k) ms (pre_of (slice_get g.actions m))) (go (slice_get g.actions m) refl)
  where
    go : (o : Option Action) → slice_get g.actions m ≡ o → are_marks_below n (fold (with_open vs k) ms (pre_of o)) ≡ true
    go None is = h
    go (Some a) is = marks_all n vs k a.pre ms (action_parts n g of m a is).0 h

-- ---- they decide

-- what a test of step and literal says of a mark
abbrev pub test_of : (ℕ → Lit → Bool) → At → Bool
test_of t m = t m.step m.literal

module _ (n : ℕ) (known : List Lit) (t : ℕ → Lit → Bool) where
  any_one : (vs : List Truth) (s : State) → Fits n known vs s → (k : ℕ) → ((l : Lit) → t k l ≡ not (holds s l)) → (ms : List At) (l : Lit) → nat_lt l.atom.0 n ≡ true → list_any (test_of t) (with_open vs k ms l) ≡ (list_any (test_of t) ms || not (holds s l))
  any_one vs s f k is ms l lt = pick (truth_at vs l) (truth_at_is n known vs s f l (ltb-true l.atom.0 n lt))
    where
      m : At
      m = record { step = k; literal = l }

      more : list_any (test_of t) (ms ++ m ∷ []) ≡ (list_any (test_of t) ms || not (holds s l))
      more = list_any-append (test_of t) ms (m ∷ []) ∙ ap (λ b. list_any (test_of t) ms || b) (or_empty (t k l) ∙ is l)

      pick : (x : Truth) → IsTruth n known (holds s l) x → list_any (test_of t) (if is_yes x then ms else ms ++ m ∷ []) ≡ (list_any (test_of t) ms || not (holds s l))
      pick Yes h = sym (ap (λ b. list_any (test_of t) ms || not b) h ∙ or_empty (list_any (test_of t) ms))
      pick No h = more
      pick (Open a) h = more

  any_all : (vs : List Truth) (s : State) → Fits n known vs s → (k : ℕ) → ((l : Lit) → t k l ≡ not (holds s l)) → (ls : List Lit) (ms : List At) → are_below n ls ≡ true → list_any (test_of t) (fold (with_open vs k) ms ls) ≡ (list_any (test_of t) ms || not (list_all (holds s) ls))
  any_all vs s f k is [] ms below = sym (or_empty (list_any (test_of t) ms))
  any_all vs s f k is (l ∷ ls) ms below =
      let parts = and_parts (nat_lt l.atom.0 n) (are_below n ls) below in
      any_all vs s f k is ls (with_open vs k ms l) parts.1
      ∙ (ap (λ b. b || not (list_all (holds s) ls)) (any_one vs s f k is ms l parts.0)
      ∙ joined (list_any (test_of t) ms) (holds s l) (list_all (holds s) ls))
    where
      joined : (a x y : Bool) → ((a || not x) || not y) ≡ (a || not (x && y))
      joined true x y = refl
      joined false true y = refl
      joined false false y = refl

  any_marks : (g : Ground) → IsGroundOf n g → (ns : List ℕ) → list_all (λ m. nat_lt m (length g.actions)) ns ≡ true → (vs : List Truth) (s : State) → Fits n known vs s → (k : ℕ) → ((j : ℕ) (l : Lit) → t (k + j) l ≡ not (holds (state_after g s (take j ns)) l)) → (ms : List At) → list_any (test_of t) (open_marks g vs ns k ms) ≡ (list_any (test_of t) ms || not (succeeds g s ns))
  any_marks g of [] inside vs s f k is ms = any_all vs s f k (λ l. ap (λ x. t x l) (omega arith) ∙ is zero l) g.goal ms of.goal
  any_marks g of (m ∷ ns) inside vs s f k is ms =
      any_marks g of ns parts.1 (next_values (slice_get g.actions m) vs) (next (slice_get g.actions m) s) (next_fits n known g of vs s f m) (k + 1) (λ j l. ap (λ x. t x l) (omega arith) ∙ is (suc j) l) (fold (with_open vs k) ms (pre_of (slice_get g.actions m)))
      ∙ go (slice_get g.actions m) refl
    where
      parts : (nat_lt m (length g.actions) ≡ true) × (list_all (λ m. nat_lt m (length g.actions)) ns ≡ true)
      parts = and_parts (nat_lt m (length g.actions)) (list_all (λ m. nat_lt m (length g.actions)) ns) inside

      joined : (a x y : Bool) → ((a || not x) || not y) ≡ (a || not (x && y))
      joined true x y = refl
      joined false true y = refl
      joined false false y = refl

      go : (o : Option Action) → slice_get g.actions m ≡ o → (list_any (test_of t) (fold (with_open vs k) ms (pre_of o)) || not (succeeds g (next o s) ns)) ≡ (list_any (test_of t) ms || not (applicable o s && succeeds g (next o s) ns))
      go None e = absurd (none_past g.actions m (ltb-true m (length g.actions) parts.0) e)
      go (Some a) e =
          ap (λ b. b || not (succeeds g (after a s) ns)) (any_all vs s f k (λ l. ap (λ x. t x l) (omega arith) ∙ is zero l) a.pre ms (action_parts n g of m a e).0)
          ∙ joined (list_any (test_of t) ms) (list_all (holds s) a.pre) (succeeds g (after a s) ns)

-- so they are the marks of the steps
pub marks_are : (n : ℕ) (known : List Lit) (g : Ground) (i : Initial) → IsGroundOf n g → AreInEach i known → (ns : List ℕ) → list_all (λ m. nat_lt m (length g.actions)) ns ≡ true → AreMarks n g i ns (open_marks g (start known n) ns 0 [])
marks_are n known g i of each ns inside = record {
  below = marks_below n g of ns (start known n) 0 [] refl;
  exact = λ s m. any_marks n known (λ k l. not (holds (state_after g s (take k ns)) l)) g of ns inside (start known n) s (start_fits n known s (each s m)) 0 (λ j l. ap (λ x. not (holds (state_after g s (take x ns)) l)) (omega arith)) [];
}
