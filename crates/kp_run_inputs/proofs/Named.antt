-- The actions that the steps of a plan name.
use Rattle.std.proofs.Common.{◌≡◌, ◌∙◌, ◌+◌, ◌++◌, ℕ, zero, suc, Bool, true, false, cond, List, [], ◌∷◌, Option, Some, None, option_map, IsSome, map, slice_get, refl, sym, ap, subst, arith}
use Rattle.std.specs.List.{position_from}
use Rattle.std.proofs.lemmas.Bool.{and_parts, and_from, false≢true}
use Rattle.kp_base.specs.declared.ground.Action.{Action}
use Rattle.kp_base.specs.declared.ground.Ground.{Ground}
use Rattle.kp_base.specs.declared.ground.GroundName.{GroundName}
use Rattle.kp_tree_grammar.specs.declared.tree.Word.{Word}
use Rattle.kp_tree_grammar.specs.Trees.{Domain, Problem}
use Rattle.kp_names_semantics.specs.Faults.{HasNoFault}
use Rattle.kp_names_semantics.specs.Names.{same, all_same}
use Rattle.kp_names_semantics.specs.GroundNames.{same_name}
use Rattle.kp_base.proofs.Lists.{same-true, same-refl}
use Rattle.kp_names_semantics.proofs.Public.{all_same_names-true, all_same_names-refl}
use Rattle.kp_base.specs.ActionNames.{action_name}
use Rattle.kp_ground_semantics.proofs.Public.{actions_named_once}
use Rattle.kp_plans.specs.declared.step.PlanStep.{PlanStep}
use Rattle.kp_plans.specs.PlanFiles.{step_names}
use Rattle.kp_plans.specs.Found.{action_names, action_of}
use Rattle.kp_law_translation.specs.OfTrees.{ground_of}
pub use Rattle.kp_run_prepare.proofs.Public.{numbers_of_names_once as numbers_once}

-- ---- the action that a step names has its name

one_name : (n m : GroundName) → same_name n m ≡ true → n ≡ m
one_name n m e =
    let p = and_parts (same n.head m.head) (all_same n.objects m.objects) e in
    ap (λ (x : List ℕ). record { head = x; objects = n.objects }) (same-true n.head m.head p.0) ∙ ap (λ (xs : List (List ℕ)). record { head = m.head; objects = xs }) (all_same_names-true n.objects m.objects p.1)

found_name : (actions : List Action) (i k : ℕ) (n : GroundName) → position_from (same_name n) i (action_names actions) ≡ Some k → (m : ℕ) × (k ≡ i + m) × (option_map (λ (a : Action). a.name) (slice_get actions m) ≡ Some n)
found_name [] i k n e = absurd cc
found_name (a ∷ actions) i k n e = by (found_name actions (i + 1) k n) (same_name n a.name) refl e
  where
    by : (position_from (same_name n) (i + 1) (action_names actions) ≡ Some k → (m : ℕ) × (k ≡ i + 1 + m) × (option_map (λ (c : Action). c.name) (slice_get actions m) ≡ Some n))
        → (b : Bool) → same_name n a.name ≡ b → cond b (Some i) (position_from (same_name n) (i + 1) (action_names actions)) ≡ Some k → (m : ℕ) × (k ≡ i + m) × (option_map (λ (c : Action). c.name) (slice_get (a ∷ actions) m) ≡ Some n)
    by later true is f = (0, (let at : i ≡ k = cc in omega (arith, at)), ap Some (sym (one_name n a.name is)))
    by later false is f = let h = later f in let at = h.1 in (suc h.0, omega (arith, at), h.2)

named_action : (g : Ground) (s : PlanStep) (k : ℕ) → action_of g.actions s ≡ Some k → action_name g k ≡ Some s.name
named_action g s k e = let h = found_name g.actions 0 k s.name e in let at = h.1 in subst (λ m. action_name g m ≡ Some s.name) (let same : h.0 ≡ k = omega (arith, at) in same) h.2

pub named_actions : (g : Ground) (steps : List PlanStep) (ns : List ℕ) → map (action_of g.actions) steps ≡ map Some ns → map (action_name g) ns ≡ map Some (step_names steps)
named_actions g [] [] e = refl
named_actions g [] (n ∷ ns) e = absurd cc
named_actions g (s ∷ steps) [] e = absurd cc
named_actions g (s ∷ steps) (n ∷ ns) e =
    let here : action_of g.actions s ≡ Some n = cc in
    let there : map (action_of g.actions) steps ≡ map Some ns = cc in
    cc (named_action g s n here, named_actions g steps ns there)

-- ---- steps with the names of actions are found

-- a name that some action has is found
found_there : (actions : List Action) (i k : ℕ) (n : GroundName) → option_map (λ (a : Action). a.name) (slice_get actions k) ≡ Some n → IsSome (position_from (same_name n) i (action_names actions))
found_there [] i k n e = absurd cc
found_there (a ∷ actions) i k n e = by (found_there actions (i + 1)) k e
  where
    itself : same_name n n ≡ true
    itself = and_from (same n.head n.head) (all_same n.objects n.objects) (same-refl n.head) (all_same_names-refl n.objects)

    skipped : (b : Bool) → IsSome (position_from (same_name n) (i + 1) (action_names actions)) → IsSome (cond b (Some i) (position_from (same_name n) (i + 1) (action_names actions)))
    skipped true h = refl
    skipped false h = h

    by : ((k : ℕ) (n : GroundName) → option_map (λ (c : Action). c.name) (slice_get actions k) ≡ Some n → IsSome (position_from (same_name n) (i + 1) (action_names actions)))
        → (k : ℕ) → option_map (λ (c : Action). c.name) (slice_get (a ∷ actions) k) ≡ Some n → IsSome (cond (same_name n a.name) (Some i) (position_from (same_name n) (i + 1) (action_names actions)))
    by later zero f = let here : a.name ≡ n = cc in subst (λ (m : GroundName). IsSome (cond (same_name n m) (Some i) (position_from (same_name n) (i + 1) (action_names actions)))) (sym here) (subst (λ b. IsSome (cond b (Some i) (position_from (same_name n) (i + 1) (action_names actions)))) (sym itself) refl)
    by later (suc m) f = skipped (same_name n a.name) (later m n f)

-- where all names are those of actions, each is found
pub all_found : (g : Ground) (before : List PlanStep) (s : PlanStep) (after : List PlanStep) (ns : List ℕ) → map (action_name g) ns ≡ map Some (step_names (before ++ (s ∷ after))) → IsSome (action_of g.actions s)
all_found g [] s after [] e = absurd cc
all_found g [] s after (n ∷ ns) e = let here : action_name g n ≡ Some s.name = cc in found_there g.actions 0 n s.name here
all_found g (b ∷ before) s after [] e = absurd cc
all_found g (b ∷ before) s after (n ∷ ns) e = let rest : map (action_name g) ns ≡ map Some (step_names (before ++ (s ∷ after))) = cc in all_found g before s after ns rest

-- and at the action's number
pub found_at : (d : Domain Word) (p : Problem Word) → HasNoFault d p → (steps : List PlanStep) (ns : List ℕ) → map (action_name (ground_of d p)) ns ≡ map Some (step_names steps) → map (action_of (ground_of d p).actions) steps ≡ map Some ns
found_at d p h [] [] e = refl
found_at d p h [] (n ∷ ns) e = absurd cc
found_at d p h (s ∷ steps) [] e = absurd cc
found_at d p h (s ∷ steps) (n ∷ ns) e =
    let here : action_name (ground_of d p) n ≡ Some s.name = cc in
    let rest : map (action_name (ground_of d p)) ns ≡ map Some (step_names steps) = cc in
    cc (by (action_of (ground_of d p).actions s) refl (found_there (ground_of d p).actions 0 n s.name here) here, found_at d p h steps ns rest)
  where
    by : (o : Option ℕ) → action_of (ground_of d p).actions s ≡ o → IsSome o → action_name (ground_of d p) n ≡ Some s.name → action_of (ground_of d p).actions s ≡ Some n
    by (Some k) is some here = is ∙ ap Some (actions_named_once d p h k n s.name (named_action (ground_of d p) s k is) here)
    by None is some here = absurd (false≢true some)
