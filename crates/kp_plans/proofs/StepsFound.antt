-- Steps are found one by one.
use Rattle.std.proofs.Common.{◌≡◌, ℕ, suc, ◌+◌, ◌<◌, Bool, true, ◌&&◌, List, [], ◌∷◌, ◌++◌, Option, Some, None, is_some, Result, Ok, Err, map, take, drop, get_or, length, refl, sym, ap, ◌∙◌, arith}
use Rattle.std.specs.List.{list_all}
use Rattle.std.proofs.Math.Seq.{split_at}
use Rattle.std.proofs.lemmas.List.{length-take-le}
use Rattle.kp_base.specs.declared.refused.Stop.{Stop}
use Rattle.kp_base.specs.declared.refused.Stop.TheVariants as causes
use Rattle.kp_base.specs.declared.refused.Refused.TheVariants as refusals
use Rattle.kp_plans.specs.declared.step.PlanStep.{PlanStep}
use Rattle.kp_plans.specs.Found.{IsFirstUnknown, AnswersSteps}

-- what was found was found for each
all_found : (find : PlanStep → Option ℕ) (steps : List PlanStep) (numbers : List ℕ) → map find steps ≡ map Some numbers → list_all (λ s. is_some (find s)) steps ≡ true
all_found find [] numbers e = refl
all_found find (s ∷ steps) [] e = absurd cc
all_found find (s ∷ steps) (n ∷ numbers) e =
    let here : find s ≡ Some n = cc in
    let more : map find steps ≡ map Some numbers = cc in
    rw here (all_found find steps numbers more)

-- a step that isn't found is the first one
pub first_one : (find : PlanStep → Option ℕ) (steps : List PlanStep) (i : ℕ) (s : PlanStep) (numbers : List ℕ) (number : ℕ) → i < length steps → s ≡ get_or steps i s → map find (take i steps) ≡ map Some numbers → length numbers ≡ i → number ≡ length numbers + 1 → find s ≡ None → IsFirstUnknown find steps number
first_one find steps i s numbers number h here found counted e none = record {
  before = take i steps;
  step = s;
  after = drop (suc i) steps;
  is = split_at steps i s h ∙ ap (λ (x : PlanStep). take i steps ++ x ∷ drop (suc i) steps) (sym here);
  counted = let n : length (take i steps) ≡ i = length-take-le i steps (omega arith) in omega (arith, n, counted, e);
  known_before = all_found find (take i steps) numbers found;
  unknown = none;
}

-- ---- found by the table, and so by the names of actions

module _ (f g : PlanStep → Option ℕ) (e : (s : PlanStep) → f s ≡ g s) where
  map_same : (steps : List PlanStep) → map f steps ≡ map g steps
  map_same [] = refl
  map_same (s ∷ steps) = ap (λ (o : Option ℕ). o ∷ map f steps) (e s) ∙ ap (λ (os : List (Option ℕ)). g s ∷ os) (map_same steps)

  all_same : (steps : List PlanStep) → list_all (λ s. is_some (f s)) steps ≡ list_all (λ s. is_some (g s)) steps
  all_same [] = refl
  all_same (s ∷ steps) = ap (λ (o : Option ℕ). is_some o && list_all (λ s. is_some (f s)) steps) (e s) ∙ ap (λ (b : Bool). is_some (g s) && b) (all_same steps)

  pub found_same : (steps : List PlanStep) (r : Result (List ℕ) Stop) → AnswersSteps f steps r → AnswersSteps g steps r
  found_same steps (Ok numbers) h = sym (map_same steps) ∙ h
  found_same steps (Err causes.Memory) h = tt
  found_same steps (Err (causes.Refused (refusals.StepUnknown number))) h = record {
    before = h.before;
    step = h.step;
    after = h.after;
    is = h.is;
    counted = h.counted;
    known_before = sym (all_same h.before) ∙ h.known_before;
    unknown = sym (e h.step) ∙ h.unknown;
  }
  found_same steps (Err (causes.Refused _)) h = absurd h
