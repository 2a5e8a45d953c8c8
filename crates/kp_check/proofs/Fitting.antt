-- Values of atoms that fit a state, and those after a step.
use Rattle.std.proofs.Common.{◌≡◌, ◌≢◌, ◌<◌, ◌+◌, ℕ, zero, suc, Bool, true, false, not, ◌&&◌, ◌||◌, if◌then◌else◌, nat_eq, nat_lt, List, [], ◌∷◌, length, get_or, set, map, fold, refl, sym, ap, subst, ◌∙◌, inl, inr, arith, ltb-true, lt-ltb, eq-eqb, length-set, get_or-set_same, get_or-set_other}
use Rattle.std.proofs.lemmas.Bool.{and_parts, cases_eq, ne_eqb}
use Rattle.std.proofs.lemmas.Option.{slice_get-get_or}
use Rattle.std.specs.Bool.{beq}
use Rattle.std.specs.List.{list_all, range_with_len}
use Rattle.kp_base.specs.declared.lit.Lit.{Lit}
use Rattle.kp_base.specs.declared.ground.Effect.{Effect}
use Rattle.kp_base.specs.declared.ground.Action.{Action}
use Rattle.kp_base.specs.Planning.{signed, positive, negative, same_lit, State, holds, fires, after, are_below, effect_below}
use Rattle.kp_base.proofs.Lists.{all_member}
use Rattle.kp_primes_first_model.specs.declared.truth.Truth.{Truth}
use Rattle.kp_primes_first_model.specs.declared.truth.Truth.TheVariants.{Yes, No}
use Rattle.kp_primes_first_model.specs.Truths.{IsTruth, opposite, both, either, truth_in}
use Rattle.kp_primes_first_model.proofs.Public.{truth_of_not, truth_of_and, truth_of_or, truth_of_all, truth_of_literal}
use Rattle.kp_check.specs.Values.{value_of, value_at, truth_at, all_true, with_value, start, firing, deleted, added, stepped}

-- ---- lists of values

at_get : (vs : List Truth) (q : ℕ) → q < length vs → value_at vs q ≡ get_or vs q No
at_get vs q lt = ap value_of (slice_get-get_or vs q No lt)

set_same : (vs : List Truth) (p : ℕ) (t : Truth) → p < length vs → value_at (set vs p t) p ≡ t
set_same vs p t lt = at_get (set vs p t) p (rw length-set lt) ∙ get_or-set_same vs p t No lt

set_other : (vs : List Truth) (p q : ℕ) (t : Truth) → q < length vs → q ≢ p → value_at (set vs p t) q ≡ value_at vs q
set_other vs p q t lt ne = at_get (set vs p t) q (rw length-set lt) ∙ (get_or-set_other vs p q t No ne ∙ sym (at_get vs q lt))

with_value_is : (vs : List Truth) (p : ℕ) (t : Truth) → p < length vs → with_value vs p t ≡ set vs p t
with_value_is vs p t lt = rw (lt-ltb p (length vs) lt) refl

pub at_range : (f : ℕ → Truth) (a m q : ℕ) → q < m → value_at (map f (range_with_len a m)) q ≡ f (a + q)
at_range f a zero q lt = absurd (omega arith)
at_range f a (suc m) zero lt = ap f (omega arith)
at_range f a (suc m) (suc q) lt = at_range f (a + 1) m q (omega arith) ∙ ap f (omega arith)

pub length_range : (f : ℕ → Truth) (a m : ℕ) → length (map f (range_with_len a m)) ≡ m
length_range f a zero = refl
length_range f a (suc m) = ap suc (length_range f (a + 1) m)

-- ---- truth values

and_true : (a : Bool) → (a && true) ≡ a
and_true true = refl
and_true false = refl

or_false : (a : Bool) → (a || false) ≡ a
or_false true = refl
or_false false = refl

module _ (n : ℕ) (known : List Lit) where
  -- the values of the first n atoms are right about the state
  pub record Fits (vs : List Truth) (s : State) : Type 0 where
    pub len : length vs ≡ n
    pub each : (q : ℕ) → q < n → IsTruth n known (s q) (value_at vs q)

  fits_alike : (vs : List Truth) (s t : State) → ((q : ℕ) → s q ≡ t q) → Fits vs s → Fits vs t
  fits_alike vs s t same f = record {
    len = f.len;
    each = λ q lt. subst (λ b. IsTruth n known b (value_at vs q)) (same q) (f.each q lt);
  }

  pub start_fits : (s : State) → list_all (holds s) known ≡ true → Fits (start known n) s
  start_fits s met = record {
    len = length_range (λ p. truth_in known (positive p)) 0 n;
    each = λ q lt. subst (IsTruth n known (s q)) (sym (at_range (λ p. truth_in known (positive p)) 0 n q lt ∙ ap (λ p. truth_in known (positive p)) (omega arith))) (truth_of_literal n known s met (positive q) lt);
  }

  pub truth_at_is : (vs : List Truth) (s : State) → Fits vs s → (l : Lit) → l.atom.0 < n → IsTruth n known (holds s l) (truth_at vs l)
  truth_at_is vs s f l lt = pick l.positive
    where
      pick : (b : Bool) → IsTruth n known (signed b (s l.atom.0)) (if b then value_at vs l.atom.0 else opposite (value_at vs l.atom.0))
      pick true = f.each l.atom.0 lt
      pick false = truth_of_not n known (s l.atom.0) (value_at vs l.atom.0) (f.each l.atom.0 lt)

  pub all_true_is : (vs : List Truth) (s : State) → Fits vs s → (ls : List Lit) → are_below n ls ≡ true → IsTruth n known (list_all (holds s) ls) (all_true vs ls)
  all_true_is vs s f ls below = truth_of_all n known (holds s) (truth_at vs) ls (λ l m. truth_at_is vs s f l (ltb-true l.atom.0 n (all_member (λ l. nat_lt l.atom.0 n) ls l m below))) true Yes refl

  with_value_fits : (vs : List Truth) (t u : State) → Fits vs t → (p : ℕ) (v : Truth) → p < n → IsTruth n known (u p) v → ((q : ℕ) → q ≢ p → t q ≡ u q) → Fits (with_value vs p v) u
  with_value_fits vs t u f p v lt is same =
      let inside : p < length vs = rw f.len lt in
      rw (with_value_is vs p v inside) (record {
        len = length-set vs p v ∙ f.len;
        each = λ q less. elim (cases_eq q p) [
          | inl e ↦ rw e (subst (IsTruth n known (u p)) (sym (set_same vs p v inside)) is)
          | inr ne ↦
              let within : q < length vs = rw f.len less in
              subst (IsTruth n known (u q)) (sym (set_other vs p q v within ne)) (subst (λ b. IsTruth n known b (value_at vs q)) (same q ne) (f.each q less))
        ];
      })

  -- ---- effects

  module _ (old : List Truth) (s : State) (fit : Fits old s) where
    deleted_fits : (vs : List Truth) (t : State) → Fits vs t → (e : Effect) → effect_below n e ≡ true → Fits (deleted vs (firing old e)) (λ q. t q && not (same_lit e.result (negative q) && list_all (holds s) e.cond))
    deleted_fits vs t f e below = go e.result.positive
      where
        p : ℕ
        p = e.result.atom.0

        c : Bool
        c = list_all (holds s) e.cond

        stays : (a x d : Bool) → a ≡ (a && not ((x && false) && d))
        stays a true d = sym (and_true a)
        stays a false d = sym (and_true a)

        go : (b : Bool) → Fits (if b then vs else with_value vs p (both (value_at vs p) (opposite (all_true old e.cond)))) (λ q. t q && not ((nat_eq p q && beq b false) && c))
        go true = fits_alike vs t (λ q. t q && not ((nat_eq p q && false) && c)) (λ q. stays (t q) (nat_eq p q) c) f
        go false =
            let parts = and_parts (nat_lt p n) (are_below n e.cond) below in
            let lt = ltb-true p n parts.0 in
            with_value_fits vs t (λ q. t q && not ((nat_eq p q && true) && c)) f p (both (value_at vs p) (opposite (all_true old e.cond))) lt
            (subst (λ x. IsTruth n known (t p && not ((x && true) && c)) (both (value_at vs p) (opposite (all_true old e.cond)))) (sym (eq-eqb p p refl))
            (truth_of_and n known (t p) (not c) (value_at vs p) (opposite (all_true old e.cond)) (f.each p lt) (truth_of_not n known c (all_true old e.cond) (all_true_is old s fit e.cond parts.1))))
            (λ q ne. subst (λ x. t q ≡ (t q && not ((x && true) && c))) (sym (ne_eqb p q (λ e. ne (sym e)))) (sym (and_true (t q))))

    added_fits : (vs : List Truth) (t : State) → Fits vs t → (e : Effect) → effect_below n e ≡ true → Fits (added vs (firing old e)) (λ q. t q || (same_lit e.result (positive q) && list_all (holds s) e.cond))
    added_fits vs t f e below = go e.result.positive
      where
        p : ℕ
        p = e.result.atom.0

        c : Bool
        c = list_all (holds s) e.cond

        stays : (a x d : Bool) → a ≡ (a || ((x && false) && d))
        stays a true d = sym (or_false a)
        stays a false d = sym (or_false a)

        go : (b : Bool) → Fits (if b then with_value vs p (either (value_at vs p) (all_true old e.cond)) else vs) (λ q. t q || ((nat_eq p q && beq b true) && c))
        go false = fits_alike vs t (λ q. t q || ((nat_eq p q && false) && c)) (λ q. stays (t q) (nat_eq p q) c) f
        go true =
            let parts = and_parts (nat_lt p n) (are_below n e.cond) below in
            let lt = ltb-true p n parts.0 in
            with_value_fits vs t (λ q. t q || ((nat_eq p q && true) && c)) f p (either (value_at vs p) (all_true old e.cond)) lt
            (subst (λ x. IsTruth n known (t p || ((x && true) && c)) (either (value_at vs p) (all_true old e.cond))) (sym (eq-eqb p p refl))
            (truth_of_or n known (t p) c (value_at vs p) (all_true old e.cond) (f.each p lt) (all_true_is old s fit e.cond parts.1)))
            (λ q ne. subst (λ x. t q ≡ (t q || ((x && true) && c))) (sym (ne_eqb p q (λ e. ne (sym e)))) (sym (or_false (t q))))

    deletes_fit : (es : List Effect) → list_all (effect_below n) es ≡ true → (vs : List Truth) (t : State) → Fits vs t → Fits (fold deleted vs (map (firing old) es)) (λ q. t q && not (fires es (holds s) (negative q)))
    deletes_fit [] below vs t f = fits_alike vs t (λ q. t q && true) (λ q. sym (and_true (t q))) f
    deletes_fit (e ∷ es) below vs t f =
        let parts = and_parts (effect_below n e) (list_all (effect_below n) es) below in
        fits_alike (fold deleted (deleted vs (firing old e)) (map (firing old) es))
        (λ q. (t q && not (same_lit e.result (negative q) && list_all (holds s) e.cond)) && not (fires es (holds s) (negative q)))
        (λ q. t q && not ((same_lit e.result (negative q) && list_all (holds s) e.cond) || fires es (holds s) (negative q)))
        (λ q. joined (t q) (same_lit e.result (negative q) && list_all (holds s) e.cond) (fires es (holds s) (negative q)))
        (deletes_fit es parts.1 (deleted vs (firing old e)) (λ q. t q && not (same_lit e.result (negative q) && list_all (holds s) e.cond)) (deleted_fits vs t f e parts.0))
      where
        joined : (a x y : Bool) → ((a && not x) && not y) ≡ (a && not (x || y))
        joined true true y = refl
        joined true false y = refl
        joined false x y = refl

    adds_fit : (es : List Effect) → list_all (effect_below n) es ≡ true → (vs : List Truth) (t : State) → Fits vs t → Fits (fold added vs (map (firing old) es)) (λ q. t q || fires es (holds s) (positive q))
    adds_fit [] below vs t f = fits_alike vs t (λ q. t q || false) (λ q. sym (or_false (t q))) f
    adds_fit (e ∷ es) below vs t f =
        let parts = and_parts (effect_below n e) (list_all (effect_below n) es) below in
        fits_alike (fold added (added vs (firing old e)) (map (firing old) es))
        (λ q. (t q || (same_lit e.result (positive q) && list_all (holds s) e.cond)) || fires es (holds s) (positive q))
        (λ q. t q || ((same_lit e.result (positive q) && list_all (holds s) e.cond) || fires es (holds s) (positive q)))
        (λ q. joined (t q) (same_lit e.result (positive q) && list_all (holds s) e.cond) (fires es (holds s) (positive q)))
        (adds_fit es parts.1 (added vs (firing old e)) (λ q. t q || (same_lit e.result (positive q) && list_all (holds s) e.cond)) (added_fits vs t f e parts.0))
      where
        joined : (a x y : Bool) → ((a || x) || y) ≡ (a || (x || y))
        joined true x y = refl
        joined false x y = refl

    -- the values after an action fit the state after it
    pub stepped_fits : (a : Action) → list_all (effect_below n) a.effects ≡ true → Fits (stepped old a.effects) (after a s)
    stepped_fits a below =
        fits_alike (stepped old a.effects)
        (λ q. (s q && not (fires a.effects (holds s) (negative q))) || fires a.effects (holds s) (positive q))
        (after a s)
        (λ q. turned (s q && not (fires a.effects (holds s) (negative q))) (fires a.effects (holds s) (positive q)))
        (adds_fit a.effects below (fold deleted old (map (firing old) a.effects)) (λ q. s q && not (fires a.effects (holds s) (negative q))) (deletes_fit a.effects below old s fit))
      where
        turned : (x y : Bool) → (x || y) ≡ (y || x)
        turned true true = refl
        turned true false = refl
        turned false true = refl
        turned false false = refl
