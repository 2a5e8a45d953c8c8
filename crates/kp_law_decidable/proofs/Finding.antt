-- Each step of a plan is found, or some is the first that isn't.
use Rattle.std.proofs.Common.{◌≡◌, ◌⊎◌, ℕ, suc, List, [], ◌∷◌, Option, Some, None, is_some, map, refl, ap, ap₂, inl, inr, arith}
use Rattle.std.proofs.lemmas.Bool.{and_from}
use Rattle.std.specs.List.{list_all}
use Rattle.kp_plans.specs.declared.step.PlanStep.{PlanStep}
use Rattle.kp_plans.specs.Found.{action_of, IsFirstUnknown}
use Rattle.kp_law_decidable.specs.Laws.{StepsAreDecided}

module _ (find : PlanStep → Option ℕ) where
  -- all are, or one is the first that isn't
  abbrev IsDecided : List PlanStep → Type 0
  IsDecided steps = ((ns : List ℕ) × (map find steps ≡ map Some ns)) ⊎ ((n : ℕ) × IsFirstUnknown find steps n)

  one_more : (s : PlanStep) (steps : List PlanStep) (n : ℕ) → find s ≡ Some n → IsDecided steps → IsDecided (s ∷ steps)
  one_more s steps n is (inl (ns, found)) = inl (n ∷ ns, ap₂ (λ (o : Option ℕ) (os : List (Option ℕ)). o ∷ os) is found)
  one_more s steps n is (inr (k, f)) = inr (
    suc k,
    record {
      before = s ∷ f.before;
      step = f.step;
      after = f.after;
      is = ap (λ (xs : List PlanStep). s ∷ xs) f.is;
      counted = let c = f.counted in omega (arith, c);
      known_before = and_from (is_some (find s)) (list_all (λ s. is_some (find s)) f.before) (ap (λ (o : Option ℕ). is_some o) is) f.known_before;
      unknown = f.unknown;
    },
  )

  found_or_unknown : (steps : List PlanStep) → IsDecided steps
  found_or_unknown [] = inl ([], refl)
  found_or_unknown (s ∷ steps) = go (find s) refl (found_or_unknown steps)
    where
      go : (o : Option ℕ) → find s ≡ o → IsDecided steps → IsDecided (s ∷ steps)
      go None is rest = inr (1, record { before = []; step = s; after = steps; is = refl; counted = omega arith; known_before = refl; unknown = is })
      go (Some n) is rest = one_more s steps n is rest

pub steps_decided : StepsAreDecided
steps_decided actions steps = found_or_unknown (action_of actions) steps
