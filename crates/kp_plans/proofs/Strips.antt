-- Steps are stripped one by one.
use Rattle.std.proofs.Common.{◌≡◌, ℕ, ◌<◌, ◌+◌, suc, List, [], ◌∷◌, ◌++◌, Option, Some, None, option_map, option_and_then, take, drop, get_or, length, refl, sym, ap, ◌∙◌, append_assoc, append-nil}
use Rattle.std.proofs.lemmas.List.{map-append, take_more}
use Rattle.std.proofs.Math.Seq.{split_at}
use Rattle.kp_base.specs.declared.ground.GroundName.{GroundName}
use Rattle.kp_names_semantics.specs.Strip.{stripped, strip}
use Rattle.kp_plans.specs.declared.step.PlanStep.{PlanStep}
use Rattle.kp_plans.specs.PlanFiles.{step_names}
use Rattle.kp_plans.specs.Stripping.{IsFirstUnstripped}

-- with what comes in front
in_front : (o p q r : Option (List GroundName)) (done now : List GroundName) → option_and_then (λ front. option_map (λ rest. front ++ rest) p) o ≡ Some done → option_map (λ xs. done ++ xs) r ≡ Some now → ((rest others : List GroundName) → p ≡ Some rest → option_map (λ xs. rest ++ xs) r ≡ Some others → q ≡ Some others) → option_and_then (λ front. option_map (λ rest. front ++ rest) q) o ≡ Some now
in_front None p q r done now e h f = absurd cc
in_front (Some front) None q r done now e h f = absurd cc
in_front (Some front) (Some rest) q None done now e h f = absurd cc
in_front (Some front) (Some rest) q (Some xs) done now e h f =
    let all : front ++ rest ≡ done = cc in
    ap (option_map (λ rest. front ++ rest)) (f rest (rest ++ xs) refl refl) ∙ ap Some (sym (append_assoc front rest xs)) ∙ ap (λ (ys : List GroundName). Some (ys ++ xs)) all ∙ h

alone : (o : Option (List GroundName)) (done now : List GroundName) → Some [] ≡ Some done → option_map (λ xs. done ++ xs) o ≡ Some now → option_and_then (λ front. option_map (λ rest. front ++ rest) (Some [])) o ≡ Some now
alone None done now e h = absurd cc
alone (Some xs) [] now e h = ap Some (append-nil xs) ∙ h
alone (Some xs) (d ∷ ds) now e h = absurd cc

-- one more step at the end
more : (is : List GroundName) (i : GroundName) (done now : List GroundName) → strip is ≡ Some done → option_map (λ xs. done ++ xs) (stripped i.head i.objects) ≡ Some now → strip (is ++ i ∷ []) ≡ Some now
more [] i done now e h = alone (stripped i.head i.objects) done now e h
more (j ∷ is) i done now e h = in_front (stripped j.head j.objects) (strip is) (strip (is ++ i ∷ [])) (stripped i.head i.objects) done now e h (λ rest others k l. more is i rest others k l)

-- the same of the steps of a file, up to a place
pub one_more : (steps : List PlanStep) (i : ℕ) (s : PlanStep) (done now : List GroundName) → i < length steps → s ≡ get_or steps i s → strip (step_names (take i steps)) ≡ Some done → option_map (λ xs. done ++ xs) (stripped s.name.head s.name.objects) ≡ Some now → strip (step_names (take (i + 1) steps)) ≡ Some now
one_more steps i s done now h is e k =
    let split : take (i + 1) steps ≡ take i steps ++ s ∷ [] = take_more steps i s h ∙ ap (λ (x : PlanStep). take i steps ++ x ∷ []) (sym is) in
    rw (split, map-append (λ (x : PlanStep). x.name) (take i steps) (s ∷ [])) (more (step_names (take i steps)) s.name done now e k)

-- a step that isn't stripped is the first such step
pub first_one : (steps : List PlanStep) (i : ℕ) (s : PlanStep) (done : List GroundName) → i < length steps → s ≡ get_or steps i s → strip (step_names (take i steps)) ≡ Some done → stripped s.name.head s.name.objects ≡ None → IsFirstUnstripped steps s
first_one steps i s done h is e k = record {
  before = take i steps;
  after = drop (suc i) steps;
  is = split_at steps i s h ∙ ap (λ (x : PlanStep). take i steps ++ x ∷ drop (suc i) steps) (sym is);
  stripped_before = rw e refl;
  not_stripped = k;
}
