-- Short searches of tasks with one operator: it leads to the goal, or to a state from which nothing does, or to one that waits when the budget is used up.
use Rattle.std.proofs.Common.{◌≡◌, ◌<◌, ◌≤◌, ◌⊎◌, ℕ, zero, suc, true, false, List, [], ◌∷◌, Option, Some, None, length, nat_eq, slice_get, inl, inr, refl, sym, ap, ◌∙◌, subst, arith}
use Rattle.std.proofs.lemmas.Bool.{or_cases, eqb-true, false≢true}
use Rattle.kp_base.specs.Lists.{Member}
use Rattle.kp_classic.specs.declared.task.Task.{Task}
use Rattle.kp_classic.specs.Fits.{IsFit}
use Rattle.kp_classic.specs.States.{FactSet, has}
use Rattle.kp_classic.specs.Steps.{Holding, succeeds}
use Rattle.kp_guide.specs.declared.rule.Rule.{Rule}
use Rattle.kp_guide.specs.Added.{rules_of, goal_of, Costs, IsAdded}
use Rattle.kp_guide.specs.Added.Costs.{none, given, by_rule}
use Rattle.kp_guide.proofs.Public.{added_exists, added_is_right}
use Rattle.kp_search.specs.Trace.{Entry, Course, first, can, step, is_goal, one_entry, entry_after, is_taken, IsNext, WasTaken, with_expanded, Enters, IsCourse, EndsWithPlan, EndsSpent, EndsWithoutPlan}
use Rattle.kp_search.specs.Trace.Enters.{none as entered_none, dead, enter}
use Rattle.kp_search.specs.Trace.IsCourse.{begun, spread}
use Rattle.kp_search.specs.Ends.{by_added}

-- ---- estimates

module _ (t : Task) (fit : IsFit t) (s : FactSet) where
  -- a state from which operators lead to the goal is estimated at a number
  pub leading : (ks : List ℕ) → succeeds t (has s.hold) ks ≡ true → (h : ℕ) × by_added t s (Some h)
  leading ks leads = by (added_exists t (has s.hold) fit)
    where
      by : ((h : Option ℕ) × IsAdded t (has s.hold) h) → (h : ℕ) × by_added t s (Some h)
      by (Some h, is) = (h, is)
      by (None, is) = absurd (added_is_right t (has s.hold) ks is leads)

  -- so is one from which rules reach the goal
  pub reaching : (n : ℕ) → Costs (rules_of t) (has s.hold) (goal_of t) n → (h : ℕ) × by_added t s (Some h)
  reaching n costs = by (added_exists t (has s.hold) fit)
    where
      by : ((h : Option ℕ) × IsAdded t (has s.hold) h) → (h : ℕ) × by_added t s (Some h)
      by (Some h, is) = (h, is)
      by (None, is) = absurd (is n costs)

-- a fact that doesn't hold and that no rule adds isn't reached
pub unreached : (rules : List Rule) (s : Holding) (f : ℕ) → s f ≡ false → ((r : Rule) → Member rules r → r.fact ≡ f → ⊥) → (fs xs : List ℕ) (n : ℕ) → Costs rules s xs n → xs ≡ f ∷ fs → ⊥
unreached rules s f off without fs _ _ none e = absurd cc
unreached rules s f off without fs _ _ (given g gs n holds rest) e = let same : g ≡ f = cc in absurd (false≢true (sym off ∙ subst (λ z. s z ≡ true) same holds))
unreached rules s f off without fs _ _ (by_rule r m gs n of_rules needs rest) e = let same : r.fact ≡ f = cc in without r of_rules same

-- ---- courses

module _ (t : Task) (budget : ℕ) (some : 0 < budget) (one : length t.ops ≡ 1) (may : can t 0 (first t) ≡ true) (no_goal : is_goal t (first t) ≡ false) (h : ℕ) (at_first : by_added t (first t) (Some h)) where
  abbrev begin : Entry
  begin = record { state = first t; estimate = h; ops = [] }

  first_next : IsNext (one_entry (first t) h) 0 begin
  first_next = record { waits = record { there = refl; untaken = refl }; least = λ m d w. by m d w.there }
    where
      by : (m : ℕ) (d : Entry) → slice_get (begin ∷ []) m ≡ Some d → (h < d.estimate) ⊎ ((h ≡ d.estimate) × (0 ≤ m))
      by zero d there = let same : begin ≡ d = cc in inr (ap (λ (z : Entry). z.estimate) same, omega arith)
      by (suc m) d there = absurd cc

  -- the first state is expanded, which enters these
  abbrev course : List Entry → Course
  course new = with_expanded (one_entry (first t) h) 0 new

  is_course : (new : List Entry) → Enters t (by_added t) begin 1 new → IsCourse t (by_added t) budget (course new)
  is_course new enters = spread (one_entry (first t) h) 0 begin new (begun h at_first) first_next (λ w. false≢true w.taken) no_goal some (subst (λ n. Enters t (by_added t) begin n new) (sym one) enters)

  -- from the next state nothing leads to the goal
  pub without_plan : by_added t (step t 0 (first t)) None → EndsWithoutPlan t (by_added t) budget
  without_plan lost = record { course = course []; is = is_course [] (dead 0 [] entered_none may lost); empty = λ n e w. by n e w.there w.untaken }
    where
      by : (n : ℕ) (e : Entry) → slice_get (begin ∷ []) n ≡ Some e → is_taken (course []) n ≡ false → ⊥
      by zero e there untaken = false≢true (sym untaken)
      by (suc n) e there untaken = absurd cc

  module _ (k : ℕ) (at_next : by_added t (step t 0 (first t)) (Some k)) where
    abbrev end : Entry
    end = entry_after t begin 0 k

    end_next : IsNext (course (end ∷ [])) 1 end
    end_next = record { waits = record { there = refl; untaken = refl }; least = λ m d w. by m d w.there w.untaken }
      where
        by : (m : ℕ) (d : Entry) → slice_get (begin ∷ end ∷ []) m ≡ Some d → is_taken (course (end ∷ [])) m ≡ false → (k < d.estimate) ⊎ ((k ≡ d.estimate) × (1 ≤ m))
        by zero d there untaken = absurd (false≢true (sym untaken))
        by (suc zero) d there untaken = let same : end ≡ d = cc in inr (ap (λ (z : Entry). z.estimate) same, omega arith)
        by (suc (suc m)) d there untaken = absurd cc

    entered : IsCourse t (by_added t) budget (course (end ∷ []))
    entered = is_course (end ∷ []) (enter 0 [] k entered_none may at_next)

    -- the next state is another
    is_new : (first t ≡ step t 0 (first t) → ⊥) → WasTaken (course (end ∷ [])) end.state → ⊥
    is_new differ w = by w.number w.entry w.taken w.there w.same
      where
        by : (n : ℕ) (e : Entry) → is_taken (course (end ∷ [])) n ≡ true → slice_get (begin ∷ end ∷ []) n ≡ Some e → e.state ≡ end.state → ⊥
        by zero e taken there same = let here : begin ≡ e = cc in differ (ap (λ (z : Entry). z.state) here ∙ same)
        by (suc n) e taken there same = elim (or_cases (nat_eq (suc n) 0) false taken) [ inl e ↦ absurd (let zero_ = eqb-true (suc n) 0 e in omega (arith, zero_)) | inr e ↦ absurd (false≢true e) ]

    pub with_plan : (first t ≡ step t 0 (first t) → ⊥) → is_goal t (step t 0 (first t)) ≡ true → EndsWithPlan t (by_added t) budget (0 ∷ []) 1
    with_plan differ goal = record { course = course (end ∷ []); is = entered; number = 1; entry = end; next = end_next; new = is_new differ; goal = goal; ops_are = refl; expanded_are = refl }

    pub spent : (first t ≡ step t 0 (first t) → ⊥) → is_goal t (step t 0 (first t)) ≡ false → budget ≡ 1 → EndsSpent t (by_added t) budget budget
    spent differ goal all = record { course = course (end ∷ []); is = entered; number = 1; entry = end; next = end_next; new = is_new differ; goal = goal; full = sym all; expanded_are = refl }
