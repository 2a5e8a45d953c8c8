-- States that operators lead to.
use Rattle.std.proofs.Common.{◌≡◌, ◌<◌, ℕ, Bool, true, false, ◌&&◌, if◌then◌else◌, List, [], ◌∷◌, ◌++◌, Option, Some, None, nat_lt, length, slice_get, refl, sym, ap, subst, ◌∙◌}
use Rattle.std.proofs.lemmas.Bool.{and_parts, and_from, lt-ltb, false≢true}
use Rattle.std.proofs.lemmas.Option.{slice_get_within}
use Rattle.kp_classic.specs.declared.task.Task.{Task}
use Rattle.kp_classic.specs.declared.task.Op.{Op}
use Rattle.kp_classic.specs.Fits.{are_below, IsFit}
use Rattle.kp_classic.specs.Runs.{state_at_end}
use Rattle.kp_classic.specs.States.{FactSet, has, fact_set_of}
use Rattle.kp_classic.specs.Steps.{Holding, meets, applicable, next, start, runs, holding_after, succeeds}
use Rattle.kp_classic.proofs.Public.{facts_of_agreeing_tests, AgreeOnFacts, agree_those, applicable_alike, next_alike, succeeds_alike, success_is_a_run, meets_alike}
use Rattle.kp_search.specs.Trace.{first, can, step, is_goal}
use Rattle.kp_search.specs.Sound.{IsLed}

-- there is no operator past the last
pub can_within : (t : Task) (k : ℕ) (s : FactSet) → can t k s ≡ true → k < length t.ops
can_within t k s h = by (slice_get t.ops k) refl h
  where
    by : (o : Option Op) → slice_get t.ops k ≡ o → applicable o (has s.hold) ≡ true → k < length t.ops
    by None is f = absurd (false≢true f)
    by (Some o) is f = slice_get_within t.ops k o is

-- ---- one operator more

and_true : (b : Bool) → (b && true) ≡ b
and_true true = refl
and_true false = refl

regroup : (a b c : Bool) → (a && (b && c)) ≡ ((a && b) && c)
regroup true b c = refl
regroup false b c = refl

runs_more : (t : Task) (h : Holding) (ks : List ℕ) (k : ℕ) → runs t h (ks ++ k ∷ []) ≡ (runs t h ks && applicable (slice_get t.ops k) (holding_after t h ks))
runs_more t h [] k = and_true (applicable (slice_get t.ops k) h)
runs_more t h (j ∷ ks) k = ap (λ b. applicable (slice_get t.ops j) h && b) (runs_more t (next (slice_get t.ops j) h) ks k) ∙ regroup (applicable (slice_get t.ops j) h) _ _

after_more : (t : Task) (h : Holding) (ks : List ℕ) (k : ℕ) → holding_after t h (ks ++ k ∷ []) ≡ next (slice_get t.ops k) (holding_after t h ks)
after_more t h [] k = refl
after_more t h (j ∷ ks) k = after_more t (next (slice_get t.ops j) h) ks k

below_more : (n : ℕ) (ks : List ℕ) (k : ℕ) → are_below n ks ≡ true → k < n → are_below n (ks ++ k ∷ []) ≡ true
below_more n [] k h lt = and_from (nat_lt k n) true (lt-ltb k n lt) refl
below_more n (j ∷ ks) k h lt =
    let both = and_parts (nat_lt j n) (are_below n ks) h in
    and_from (nat_lt j n) (are_below n (ks ++ k ∷ [])) both.0 (below_more n ks k both.1 lt)

-- ---- where operators lead

-- they run, and the state is the one at their end
record Outcome (t : Task) (ks : List ℕ) (s : FactSet) : Type 0 where
  runs_on : runs t (start t) ks ≡ true
  state : s ≡ fact_set_of (length t.facts) (holding_after t (start t) ks)
  agree : AgreeOnFacts (length t.facts) (has s.hold) (holding_after t (start t) ks)

outcome_is : (t : Task) (ks : List ℕ) (s : FactSet) → state_at_end t ks ≡ Some s → Outcome t ks s
outcome_is t ks s e = go (runs t (start t) ks) refl e
  where
    end : FactSet
    end = fact_set_of (length t.facts) (holding_after t (start t) ks)

    go : (b : Bool) → runs t (start t) ks ≡ b → (if b then Some end else None) ≡ Some s → Outcome t ks s
    go true is h =
        let same : s ≡ end = cc in
        record { runs_on = is; state = same; agree = subst (λ (x : FactSet). AgreeOnFacts (length t.facts) (has x.hold) (holding_after t (start t) ks)) (sym same) (agree_those (length t.facts) (holding_after t (start t) ks)) }
    go false is h = cc

is_outcome : (t : Task) (ks : List ℕ) (s : FactSet) → runs t (start t) ks ≡ true → s ≡ fact_set_of (length t.facts) (holding_after t (start t) ks) → state_at_end t ks ≡ Some s
is_outcome t ks s r e = rw r (ap Some (sym e))

pub led_first : (t : Task) → IsLed t [] (first t)
led_first t = record { leads = refl; of_task = refl }

pub led_on : (t : Task) → IsFit t → (ks : List ℕ) (s : FactSet) (k : ℕ) → IsLed t ks s → can t k s ≡ true → IsLed t (ks ++ k ∷ []) (step t k s)
led_on t fit ks s k l may =
    let o = outcome_is t ks s l.leads in
    let h = holding_after t (start t) ks in
    record {
      leads = is_outcome t (ks ++ k ∷ []) (step t k s)
          (runs_more t (start t) ks k ∙ and_from (runs t (start t) ks) (applicable (slice_get t.ops k) h) o.runs_on (sym (applicable_alike t fit k (has s.hold) h o.agree) ∙ may))
          (ap (λ (fs : List ℕ). record { facts = length t.facts; hold = fs }) (facts_of_agreeing_tests (length t.facts) _ _ (next_alike t fit k (has s.hold) h o.agree).each) ∙ ap (fact_set_of (length t.facts)) (sym (after_more t (start t) ks k)));
      of_task = below_more (length t.ops) ks k l.of_task (can_within t k s may);
    }

-- operators that lead to a state that meets the goal are a plan
pub led_plan : (t : Task) → IsFit t → (ks : List ℕ) (s : FactSet) → IsLed t ks s → is_goal t s ≡ true → succeeds t (start t) ks ≡ true
led_plan t fit ks s l goal =
    let o = outcome_is t ks s l.leads in
    let h = holding_after t (start t) ks in
    success_is_a_run t (start t) ks ∙ and_from (runs t (start t) ks) (meets t.goal h) o.runs_on (sym (meets_alike (length t.facts) (has s.hold) h o.agree t.goal fit.goal) ∙ goal)

-- ---- operators that lead to the goal

-- from the first state they do what they do from the start
pub plan_of_first : (t : Task) → IsFit t → (ks : List ℕ) → succeeds t (has (first t).hold) ks ≡ succeeds t (start t) ks
plan_of_first t fit ks = succeeds_alike t fit ks (has (first t).hold) (start t) (agree_those (length t.facts) (start t))

-- the first of them leads to a state from which the others do
pub plan_of_step : (t : Task) → IsFit t → (s : FactSet) (k : ℕ) (ks : List ℕ) → succeeds t (has s.hold) (k ∷ ks) ≡ true → (can t k s ≡ true) × (succeeds t (has (step t k s).hold) ks ≡ true)
plan_of_step t fit s k ks h =
    let p = next (slice_get t.ops k) (has s.hold) in
    let both = and_parts (can t k s) (succeeds t p ks) h in
    (both.0, succeeds_alike t fit ks (has (step t k s).hold) p (agree_those (length t.facts) p) ∙ both.1)
