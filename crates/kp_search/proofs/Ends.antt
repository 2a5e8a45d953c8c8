-- What the end of a search says of the task.
use Rattle.std.proofs.Common.{◌≡◌, ℕ, zero, suc, Bool, true, false, List, [], ◌∷◌, Option, Some, None, map, length, slice_get, get_or, refl, sym, subst, ◌∙◌}
use Rattle.std.proofs.lemmas.Option.{slice_get-get_or, same_Some}
use Rattle.std.proofs.lemmas.List.{length-map}
use Rattle.kp_base.specs.Lists.{Member}
use Rattle.kp_base.proofs.Lists.{number_at}
use Rattle.kp_classic.specs.declared.task.Task.{Task}
use Rattle.kp_classic.specs.Fits.{are_below, IsFit}
use Rattle.kp_classic.specs.Runs.{state_at_end}
use Rattle.kp_classic.specs.States.{FactSet, has}
use Rattle.kp_classic.specs.Steps.{start, succeeds}
use Rattle.kp_search.specs.declared.found.Found.{Found}
use Rattle.kp_search.specs.declared.found.Found.TheVariants.{Plan, NoPlan, Spent}
use Rattle.kp_search.specs.Trace.{Entry, Course, first, is_goal, WasTaken, EndsWithPlan, EndsWithoutPlan}
use Rattle.kp_search.specs.Ends.{HasEnd, HasMoreStates, IsReached, Tells}
use Rattle.kp_search.specs.Sound.{Expanded, IsSoundCourse}
use Rattle.kp_search.proofs.Sound.{sound, no_plan}
use Rattle.kp_search.proofs.States.{led_plan}

-- an element of a mapped list
map_at : {X Y : Type 0} (f : X → Y) (xs : List X) (i : ℕ) (y : Y) → slice_get (map f xs) i ≡ Some y → (x : X) × (slice_get xs i ≡ Some x) × (f x ≡ y)
map_at f [] i y h = cc
map_at f (x ∷ xs) zero y h = (x, refl, same_Some (f x) y h)
map_at f (x ∷ xs) (suc i) y h = map_at f xs i y h

-- ---- the expanded states

module _ (t : Task) (may : FactSet → Option ℕ → Type 0) (budget : ℕ) (c : Course) (s : IsSoundCourse t may budget c) where
  -- an entry, and another one past the last
  abbrev entry_at : ℕ → Entry
  entry_at n = get_or c.entries n (record { state = first t; estimate = 0; ops = [] })

  abbrev states : List FactSet
  states = map (λ n. (entry_at n).state) c.expanded

  state_at : (k : ℕ) (x : FactSet) → slice_get states k ≡ Some x → Expanded c k x
  state_at k x h =
      let r = map_at (λ n. (entry_at n).state) c.expanded k x h in
      (r.0, entry_at r.0, r.1, slice_get-get_or c.entries r.0 (record { state = first t; estimate = 0; ops = [] }) (s.inside r.0 (s.expanded k r.0 r.1)), r.2)

  expanded_of : (x : FactSet) → Member states x → (k : ℕ) × Expanded c k x
  expanded_of x m = let r = number_at states x m in (r.0, state_at r.0 x r.1)

  reached_of : (k : ℕ) (x : FactSet) → Expanded c k x → IsReached t x
  reached_of k x (m, d, a, b, e) = record { ops = d.ops; leads = subst (λ y. state_at_end t d.ops ≡ Some y) e (s.reached m d b).leads }

  was_taken : (k : ℕ) (x : FactSet) → Expanded c k x → WasTaken c x
  was_taken k x (m, d, a, b, e) = record { number = m; entry = d; taken = s.expanded k m a; there = b; same = e }

  -- an entry more whose state wasn't taken and doesn't meet the goal
  pub more_states : (n : ℕ) (e : Entry) → slice_get c.entries n ≡ Some e → (WasTaken c e.state → ⊥) → is_goal t e.state ≡ false → length c.expanded ≡ budget → HasMoreStates t budget
  more_states n e there fresh plain full = record {
    states = states;
    many = length-map c.expanded (λ n. (entry_at n).state) ∙ full;
    different = λ i j x a b. s.apart i j x (state_at i x a) (state_at j x b);
    reached = λ x m. let r = expanded_of x m in reached_of r.0 x r.1;
    no_goal = λ x m. let r = expanded_of x m in s.no_goal r.0 x r.1;
    one_more = e.state;
    more_reached = record { ops = e.ops; leads = (s.reached n e there).leads };
    more_is_new = λ m. let r = expanded_of e.state m in fresh (was_taken r.0 e.state r.1);
    more_no_goal = plain;
  }

-- ---- the ends

module _ (t : Task) (fit : IsFit t) (may : FactSet → Option ℕ → Type 0) (budget : ℕ) where
  planned : (ops : List ℕ) (n : ℕ) → EndsWithPlan t may budget ops n → (are_below (length t.ops) ops ≡ true) × (succeeds t (start t) ops ≡ true)
  planned ops n e =
      let led = (sound t fit may budget e.course e.is).reached e.number e.entry e.next.waits.there in (
        subst (λ ks. are_below (length t.ops) ks ≡ true) (sym e.ops_are) led.of_task,
        subst (λ ks. succeeds t (start t) ks ≡ true) (sym e.ops_are) (led_plan t fit e.entry.ops e.entry.state led e.goal),
      )

  unplanned : ((s : FactSet) → s.facts ≡ length t.facts → may s None → (ks : List ℕ) → succeeds t (has s.hold) ks ≡ true → ⊥) → EndsWithoutPlan t may budget → (ks : List ℕ) → succeeds t (start t) ks ≡ false
  unplanned right e ks = never (succeeds t (start t) ks) (no_plan t fit may right budget e.course (sound t fit may budget e.course e.is) e.empty ks)
    where
      never : (b : Bool) → (b ≡ true → ⊥) → b ≡ false
      never true h = absurd (h refl)
      never false h = refl

  pub tells : ((s : FactSet) → s.facts ≡ length t.facts → may s None → (ks : List ℕ) → succeeds t (has s.hold) ks ≡ true → ⊥) → (f : Found) → HasEnd t may budget f → Tells t budget f
  tells right (Plan ops n) e = planned ops n e
  tells right NoPlan e = unplanned right e
  tells right (Spent n) e = more_states t may budget e.course (sound t fit may budget e.course e.is) e.number e.entry e.next.waits.there e.new e.goal e.full
