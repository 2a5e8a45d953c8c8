-- Where steps fail from a state whose atoms are all known.
use Rattle.std.proofs.Common.{◌≡◌, ◌<◌, ◌≤◌, ◌+◌, ℕ, suc, Bool, true, false, not, ◌&&◌, if◌then◌else◌, nat_lt, List, [], ◌∷◌, length, map, take, Option, Some, None, slice_get, refl, sym, ap, subst, ◌∙◌, arith, ltb-true}
use Rattle.std.proofs.lemmas.Bool.{and_parts, and_from, or_left, or_right, false≢true, true_from_ne_false}
use Rattle.std.specs.List.{list_all, range_with_len}
use Rattle.kp_base.specs.declared.lit.Lit.{Lit}
use Rattle.kp_base.specs.declared.lit.AtomId.{AtomId}
use Rattle.kp_base.specs.declared.ground.Action.{Action}
use Rattle.kp_base.specs.declared.ground.Ground.{Ground}
use Rattle.kp_base.specs.Planning.{positive, negative, IsAscending, State, is_model, holds, applicable, next, after, runs, succeeds, state_after, IsGroundPlan, pre_of, asked, are_below}
use Rattle.kp_base.specs.Lit.{has}
use Rattle.kp_base.proofs.Lists.{member_map, range_there}
use Rattle.kp_base.proofs.Lits.{has-member}
use Rattle.kp_base.proofs.Places.{none_past}
use Rattle.kp_primes_first_model.specs.declared.truth.Truth.{Truth}
use Rattle.kp_primes_first_model.specs.declared.truth.Truth.TheVariants.{Yes, No, Open}
use Rattle.kp_primes_first_model.specs.Known.{is_decided}
use Rattle.kp_primes_first_model.specs.Truths.{IsTruth}
use Rattle.kp_primes_first_model.specs.Ordered.{state_of_atoms, IsFirst}
use Rattle.kp_primes_first_model.specs.Asked.{is_wanted}
use Rattle.kp_base.specs.declared.ground.Initial.{Initial}
use Rattle.kp_check.specs.declared.failing.At.{At}
use Rattle.kp_check.specs.Values.{truth_at, stepped, next_values}
use Rattle.kp_check.proofs.Grounded.{IsGroundOf, action_parts}
use Rattle.kp_check.specs.Judging.{fails}
use Rattle.kp_check.specs.Failing.{FailAt}
use Rattle.kp_check.specs.FailingValues.{first_false, at_or, failure, AscendsAt, is_no, first_no, failure_in, decided, state_values}
use Rattle.kp_check.proofs.Least.{first_least}
use Rattle.kp_check.proofs.Fitting.{Fits, truth_at_is, stepped_fits, at_range, length_range}

-- ---- all literals of a state

literal_of : State → ℕ → Lit
literal_of s p = record { atom = record { 0 = p }; positive = s p }

full : ℕ → State → List Lit
full n s = map (literal_of s) (range_with_len 0 n)

full_decides : (n : ℕ) (s : State) (a : ℕ) → a < n → is_decided (full n s) a ≡ true
unfolding full literal_of
full_decides n s a lt = pick (s a) (has-member (full n s) (literal_of s a) (member_map (literal_of s) (range_with_len 0 n) a (range_there 0 n a (omega arith) (omega arith))))
  where
    pick : (b : Bool) → has (full n s) (record { atom = record { 0 = a }; positive = b }) ≡ true → is_decided (full n s) a ≡ true
    pick true h = or_left (has (full n s) (positive a)) (has (full n s) (negative a)) h
    pick false h = or_right (has (full n s) (positive a)) (has (full n s) (negative a)) h

values_fit : (n : ℕ) (known : List Lit) (ps : List AtomId) → Fits n known (state_values n ps) (state_of_atoms ps)
values_fit n known ps = record {
  len = length_range (λ p. decided (state_of_atoms ps p)) 0 n;
  each = λ q lt. subst (IsTruth n known (state_of_atoms ps q)) (sym (at_range (λ p. decided (state_of_atoms ps p)) 0 n q lt ∙ ap (λ p. decided (state_of_atoms ps p)) (omega arith))) (known_is (state_of_atoms ps q));
}
  where
    known_is : (b : Bool) → IsTruth n known b (decided b)
    known_is true = refl
    known_is false = refl

-- ---- where nothing is open

module _ (n : ℕ) (known : List Lit) (all : (a : ℕ) → a < n → is_decided known a ≡ true) where
  no_open : (b : Bool) (t : Truth) → IsTruth n known b t → is_no t ≡ not b
  no_open b Yes h = sym (ap not h)
  no_open b No h = sym (ap not h)
  no_open b (Open a) h = absurd (false≢true (sym h.1 ∙ all a.0 h.0))

  first_no_is : (vs : List Truth) (s : State) → Fits n known vs s → (ls : List Lit) → are_below n ls ≡ true → first_no vs ls ≡ first_false s ls
  first_no_is vs s f [] below = refl
  first_no_is vs s f (l ∷ ls) below =
      let parts = and_parts (nat_lt l.atom.0 n) (are_below n ls) below in
      rw (no_open (holds s l) (truth_at vs l) (truth_at_is n known vs s f l (ltb-true l.atom.0 n parts.0)), first_no_is vs s f ls parts.1) (turned (holds s l))
    where
      turned : (b : Bool) → (if not b then Some l else first_false s ls) ≡ (if b then first_false s ls else Some l)
      turned true = refl
      turned false = refl

  failure_is : (g : Ground) → IsGroundOf n g → (ns : List ℕ) (vs : List Truth) (s : State) (k : ℕ) → Fits n known vs s → failure_in g vs ns k ≡ failure g s ns k
  failure_is g of [] vs s k f = ap (λ o. at_or k o None) (first_no_is vs s f g.goal of.goal)
  failure_is g of (m ∷ ns) vs s k f = go (slice_get g.actions m) refl (λ us t h. failure_is g of ns us t (k + 1) h)
    where
      go : (o : Option Action) → slice_get g.actions m ≡ o → ((us : List Truth) (t : State) → Fits n known us t → failure_in g us ns (k + 1) ≡ failure g t ns (k + 1)) → at_or k (first_no vs (pre_of o)) (failure_in g (next_values o vs) ns (k + 1)) ≡ at_or k (first_false s (pre_of o)) (failure g (next o s) ns (k + 1))
      go None is rest = rest vs s f
      go (Some a) is rest =
          let parts = action_parts n g of m a is in
          rw (first_no_is vs s f a.pre parts.0, rest (stepped vs a.effects) (after a s) (stepped_fits n known vs s f a parts.1)) refl

-- what the values of a state tell is where the steps fail from it
pub failure_found : (n : ℕ) (g : Ground) → IsGroundOf n g → (ns : List ℕ) (ps : List AtomId) → failure_in g (state_values n ps) ns 0 ≡ failure g (state_of_atoms ps) ns 0
failure_found n g of ns ps = failure_is n (full n (state_of_atoms ps)) (full_decides n (state_of_atoms ps)) g of ns (state_values n ps) (state_of_atoms ps) 0 (values_fit n (full n (state_of_atoms ps)) ps)

-- ---- where they fail nowhere

all_hold : (s : State) (ls : List Lit) → first_false s ls ≡ None → list_all (holds s) ls ≡ true
all_hold s [] h = refl
all_hold s (l ∷ ls) h = pick (λ e. all_hold s ls e) (holds s l) h
  where
    pick : (first_false s ls ≡ None → list_all (holds s) ls ≡ true) → (b : Bool) → (if b then first_false s ls else Some l) ≡ None → (b && list_all (holds s) ls) ≡ true
    pick rest true e = rest e
    pick rest false e = cc

parts_none : (k : ℕ) (o : Option Lit) (rest : Option At) → at_or k o rest ≡ None → (o ≡ None) × (rest ≡ None)
parts_none k None rest h = (refl, h)
parts_none k (Some l) rest h = cc

pub none_fails : (g : Ground) (ns : List ℕ) (s : State) (k : ℕ) → list_all (λ m. nat_lt m (length g.actions)) ns ≡ true → failure g s ns k ≡ None → succeeds g s ns ≡ true
none_fails g [] s k inside h = all_hold s g.goal (parts_none k (first_false s g.goal) None h).0
none_fails g (m ∷ ns) s k inside h = go (slice_get g.actions m) refl h (λ t e. none_fails g ns t (k + 1) parts.1 e)
  where
    parts : (nat_lt m (length g.actions) ≡ true) × (list_all (λ m. nat_lt m (length g.actions)) ns ≡ true)
    parts = and_parts (nat_lt m (length g.actions)) (list_all (λ m. nat_lt m (length g.actions)) ns) inside

    there : slice_get g.actions m ≡ None → ⊥
    there = none_past g.actions m (ltb-true m (length g.actions) parts.0)

    go : (o : Option Action) → slice_get g.actions m ≡ o → at_or k (first_false s (pre_of o)) (failure g (next o s) ns (k + 1)) ≡ None → ((t : State) → failure g t ns (k + 1) ≡ None → succeeds g t ns ≡ true) → (applicable o s && succeeds g (next o s) ns) ≡ true
    go None is e rest = absurd (there is)
    go (Some a) is e rest =
        let none = parts_none k (first_false s a.pre) (failure g (after a s) ns (k + 1)) e in
        and_from (list_all (holds s) a.pre) (succeeds g (after a s) ns) (all_hold s a.pre none.0) (rest (after a s) none.1)

-- ---- where they fail somewhere

-- j steps further on than the k-th, the steps before being applicable
record IsReached (g : Ground) (s : State) (ns : List ℕ) (k : ℕ) (at : At) (j : ℕ) : Type 0 where
  place : at.step ≡ k + j
  in_range : j ≤ length ns
  reached : runs g s (take j ns) ≡ true
  first : first_false (state_after g s (take j ns)) (asked g (slice_get ns j)) ≡ Some at.literal

reached_here : (g : Ground) (s : State) (ns : List ℕ) (k : ℕ) (l : Lit) (at : At) → Some (record { step = k; literal = l }) ≡ Some at → first_false s (asked g (slice_get ns 0)) ≡ Some l → IsReached g s ns k at 0
reached_here g s ns k l at e h = let same : record { step = k; literal = l } ≡ at = cc in subst (λ a. IsReached g s ns k a 0) same (record { place = omega arith; in_range = omega arith; reached = refl; first = here ns h })
  where
    here : (xs : List ℕ) → first_false s (asked g (slice_get xs 0)) ≡ Some l → first_false (state_after g s (take 0 xs)) (asked g (slice_get xs 0)) ≡ Some l
    here [] e = e
    here (x ∷ xs) e = e

failure_reached : (g : Ground) (ns : List ℕ) (s : State) (k : ℕ) (at : At) → list_all (λ m. nat_lt m (length g.actions)) ns ≡ true → failure g s ns k ≡ Some at → (j : ℕ) × IsReached g s ns k at j
failure_reached g [] s k at inside h = go (first_false s g.goal) refl h
  where
    go : (o : Option Lit) → first_false s g.goal ≡ o → at_or k o None ≡ Some at → (j : ℕ) × IsReached g s [] k at j
    go None is e = cc
    go (Some l) is e = (0, reached_here g s [] k l at e is)
failure_reached g (m ∷ ns) s k at inside h = go (slice_get g.actions m) refl (first_false s (asked g (Some m))) refl h (λ t e. failure_reached g ns t (k + 1) at parts.1 e)
  where
    parts : (nat_lt m (length g.actions) ≡ true) × (list_all (λ m. nat_lt m (length g.actions)) ns ≡ true)
    parts = and_parts (nat_lt m (length g.actions)) (list_all (λ m. nat_lt m (length g.actions)) ns) inside

    there : slice_get g.actions m ≡ None → ⊥
    there = none_past g.actions m (ltb-true m (length g.actions) parts.0)

    go : (a : Option Action) → slice_get g.actions m ≡ a → (o : Option Lit) → first_false s (pre_of (slice_get g.actions m)) ≡ o → at_or k o (failure g (next (slice_get g.actions m) s) ns (k + 1)) ≡ Some at → ((t : State) → failure g t ns (k + 1) ≡ Some at → (j : ℕ) × IsReached g t ns (k + 1) at j) → (j : ℕ) × IsReached g s (m ∷ ns) k at j
    go None is o first e rest = absurd (there is)
    go (Some a) is (Some l) first e rest = (0, reached_here g s (m ∷ ns) k l at e first)
    go (Some a) is None first e rest =
        let r = rest (next (slice_get g.actions m) s) e in
        let can : applicable (slice_get g.actions m) s ≡ true = subst (λ o. applicable o s ≡ true) (sym is) (all_hold s a.pre (subst (λ o. first_false s (pre_of o) ≡ None) is first)) in (
          suc r.0,
          record {
            place = let p = r.1.place in omega arith;
            in_range = let p = r.1.in_range in omega arith;
            reached = and_from (applicable (slice_get g.actions m) s) (runs g (next (slice_get g.actions m) s) (take r.0 ns)) can r.1.reached;
            first = r.1.first;
          },
        )

-- where what must hold there is an ascending list, the literal is the least
pub fail_at : (g : Ground) (ns : List ℕ) (s : State) (at : At) → list_all (λ m. nat_lt m (length g.actions)) ns ≡ true → AscendsAt g ns (Some at) → failure g s ns 0 ≡ Some at → FailAt g s ns at.step at.literal
fail_at g ns s at inside up h =
    let r = failure_reached g ns s 0 at inside h in
    let place = r.1.place in
    let e : at.step ≡ r.0 = omega arith in
    subst (λ k. IsAscending (asked g (slice_get ns k)) → FailAt g s ns k at.literal) (sym e)
    (λ ascending. record { in_range = r.1.in_range; reached = r.1.reached; fails = first_least (state_after g s (take r.0 ns)) (asked g (slice_get ns r.0)) at.literal ascending r.1.first }) up

-- a state from which they fail tells where
pub tells_where : (n : ℕ) (g : Ground) (i : Initial) (ns : List ℕ) (ps : List AtomId) → IsGroundOf n g → list_all (λ m. nat_lt m (length g.actions)) ns ≡ true → IsFirst n (is_wanted i (fails g ns)) (state_of_atoms ps) → failure_in g (state_values n ps) ns 0 ≡ None → ⊥
tells_where n g i ns ps of inside first none =
    let all = none_fails g ns (state_of_atoms ps) 0 inside (sym (failure_found n g of ns ps) ∙ none) in
    let failed = (and_parts (is_model i (state_of_atoms ps)) (fails g ns (state_of_atoms ps)) first.passed).1 in
    false≢true (sym (ap not all) ∙ failed)

-- where the steps fail from no model, they are a plan
pub all_succeed : (g : Ground) (i : Initial) (ns : List ℕ) → ((s : State) → is_wanted i (fails g ns) s ≡ false) → IsGroundPlan g i ns
all_succeed g i ns none s m = true_from_ne_false (succeeds g s ns) (λ off. false≢true (sym (none s) ∙ (ap (λ b. b && not (succeeds g s ns)) m ∙ ap not off)))
