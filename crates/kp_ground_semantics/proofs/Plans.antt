-- Plans by number, and runs of actions.
use Rattle.std.proofs.Common.{◌≡◌, ℕ, Bool, true, false, ◌&&◌, List, [], ◌∷◌, ◌++◌, Option, Some, None, refl, sym, ap, subst, map, ◌∙◌, slice_get}
use Rattle.std.specs.List.{list_all, flat_map}
use mathlib.Core.Path.{fun_ext}
use Rattle.std.proofs.lemmas.Bool.{and_parts, and_from, false≢true}
use Rattle.kp_base.specs.Lists.{Member}
use Rattle.kp_base.specs.Steps as steps
use Rattle.kp_base.proofs.Lists.{any_member, any_from, member_at, filter_member, same-true, same-refl, member_left}
pub use Rattle.kp_base.proofs.Lists.{number_at}
use Rattle.kp_names_semantics.specs.Names.{same}
use Rattle.kp_names_semantics.specs.Numbered.{Schema, Lifted}
use Rattle.kp_names_semantics.specs.Lifted.{State, Instance, literal_holds, bindings, schema_of, fits, is_instance, permits, applicable, state_by, next, succeeds, IsPlan}
use Rattle.kp_base.specs.Atoms.{Atom}
use Rattle.kp_ground_semantics.specs.Static.{HasStaticTruth, settled}
use Rattle.kp_ground_semantics.specs.Ground.{kept_instances, kept_literals, open_literals, IsNumbering, action_of, ground_over, seen_on}
use Rattle.kp_ground_semantics.specs.Laws.{IsStepOf, IsGroundRun, IsPlanExact}
use Rattle.kp_ground_semantics.proofs.Static.{static_at_first, static_kept}
use Rattle.kp_ground_semantics.proofs.Step.{all_numbered, step_exact, kept_exact}
use Rattle.kp_ground_semantics.proofs.Kept.{Kept, kept_of, member_of, action_there}

module _ (l : Lifted) (atoms : List Atom) (numbering : IsNumbering l atoms) where
  -- the action of a kept instance does what the instance does
  step_at : (s : State) → HasStaticTruth l s → (i : Instance) (k : Kept l i) → IsStepOf l atoms s k.schema i.objects
  step_at s truth i k = step_exact l atoms numbering s truth k.schema i.objects (member_at l.schemas i.schema k.schema k.at) k.among

  goal_exact : (s : State) → list_all (steps.holds (seen_on atoms s)) (ground_over l atoms).goal ≡ list_all (literal_holds s) l.goal
  goal_exact s = all_numbered atoms s l.goal (λ m i. numbering.covers m (member_left l.goal (open_literals l ++ flat_map (kept_literals l) l.schemas) m i))

  -- the run of a list of kept instances
  pub run_exact : (s : State) → HasStaticTruth l s → (is : List Instance) (ns : List ℕ) → map (slice_get (kept_instances l)) ns ≡ map Some is → steps.succeeds (ground_over l atoms) (seen_on atoms s) ns ≡ succeeds l is s
  run_exact s truth [] [] e = goal_exact s
  run_exact s truth [] (n ∷ ns) e = cc
  run_exact s truth (i ∷ is) [] e = cc
  run_exact s truth (i ∷ is) (n ∷ ns) e =
      let at : slice_get (kept_instances l) n ≡ Some i = cc in
      let rest : map (slice_get (kept_instances l)) ns ≡ map Some is = cc in
      let k = kept_of l i (member_at (kept_instances l) n i at) in
      let step = step_at s truth i k in
      rw (action_there l atoms n i k at, step.applicable)
      (pick k step (permits (Some k.schema) i.objects s) refl
      (λ h. run_exact (next l i s) (static_kept l s truth i) is ns rest))
    where
      pick : (k : Kept l i) → IsStepOf l atoms s k.schema i.objects → (t : Bool) → permits (Some k.schema) i.objects s ≡ t
          → (t ≡ true → steps.succeeds (ground_over l atoms) (seen_on atoms (next l i s)) ns ≡ succeeds l is (next l i s))
          → (t && steps.succeeds (ground_over l atoms) (steps.after (action_of l atoms k.schema i.objects) (seen_on atoms s)) ns) ≡ (applicable l i s && succeeds l is (next l i s))
      pick k step false is' rest = rw (k.at, is') refl
      pick k step true is' rest =
          let after : steps.after (action_of l atoms k.schema i.objects) (seen_on atoms s) ≡ seen_on atoms (state_by (Some k.schema) i.objects s) = fun_ext (step.next is') in
          let there : state_by (Some k.schema) i.objects s ≡ next l i s = ap (λ o. state_by o i.objects s) (sym k.at) in
          let yes : applicable l i s ≡ true = ap (λ o. permits o i.objects s) k.at ∙ is' in
          ap (λ t. steps.succeeds (ground_over l atoms) t ns) (after ∙ ap (seen_on atoms) there) ∙ (rest refl ∙ rw yes refl)

-- an instance that may be taken is kept
applied_kept : (l : Lifted) (s : State) → HasStaticTruth l s → (i : Instance) → is_instance l i ≡ true → applicable l i s ≡ true → Kept l i
applied_kept l s truth i inst app = go (schema_of l i) refl inst app
  where
    go : (o : Option Schema) → schema_of l i ≡ o → fits o i.objects ≡ true → permits o i.objects s ≡ true → Kept l i
    go None is f h = absurd (false≢true f)
    go (Some a) is f h =
        let r = any_member (same i.objects) (bindings a.params) f in
        let m : Member (bindings a.params) i.objects = subst (Member (bindings a.params)) (sym (same-true i.objects r.0 r.2)) r.1 in
        record { schema = a; at = is; among = kept_exact l s truth a i.objects m h }

numbers_of : (l : Lifted) (s : State) → HasStaticTruth l s → (is : List Instance) → list_all (is_instance l) is ≡ true → succeeds l is s ≡ true → (ns : List ℕ) × (map (slice_get (kept_instances l)) ns ≡ map Some is)
numbers_of l s truth [] inst h = ([], refl)
numbers_of l s truth (i ∷ is) inst h =
    let parts = and_parts (applicable l i s) (succeeds l is (next l i s)) h in
    let insts = and_parts (is_instance l i) (list_all (is_instance l) is) inst in
    let n = number_at (kept_instances l) i (member_of l i (applied_kept l s truth i insts.0 parts.0)) in
    let rest = numbers_of l (next l i s) (static_kept l s truth i) is insts.1 parts.1 in
    let first = n.1 in
    let others = rest.1 in
    (n.0 ∷ rest.0, cc (first, others))

-- kept instances are instances
pub kept_is_instance : (l : Lifted) (i : Instance) → Kept l i → is_instance l i ≡ true
kept_is_instance l i k = rw k.at (any_from (same i.objects) (bindings k.schema.params) i.objects (filter_member (λ os. settled l os k.schema.pre) (bindings k.schema.params) i.objects k.among).0 (same-refl i.objects))

kept_are_instances : (l : Lifted) (is : List Instance) (ns : List ℕ) → map (slice_get (kept_instances l)) ns ≡ map Some is → list_all (is_instance l) is ≡ true
kept_are_instances l [] [] e = refl
kept_are_instances l [] (n ∷ ns) e = refl
kept_are_instances l (i ∷ is) [] e = cc
kept_are_instances l (i ∷ is) (n ∷ ns) e =
    let at : slice_get (kept_instances l) n ≡ Some i = cc in
    let rest : map (slice_get (kept_instances l)) ns ≡ map Some is = cc in
    and_from (is_instance l i) (list_all (is_instance l) is) (kept_is_instance l i (kept_of l i (member_at (kept_instances l) n i at))) (kept_are_instances l is ns rest)

-- kept instances whose actions succeed from each initial state are a plan, also where there is none
pub runs_are_plans : (l : Lifted) (atoms : List Atom) → IsNumbering l atoms → (is : List Instance) (ns : List ℕ) → IsGroundRun l atoms is ns → IsPlan l is
runs_are_plans l atoms numbering is ns run = record {
  instances = kept_are_instances l is ns run.numbers;
  reaches = λ s i. sym (run_exact l atoms numbering s (static_at_first l s i) is ns run.numbers) ∙ run.reaches s i;
}

pub plan_exact : IsPlanExact
plan_exact l atoms numbering first init is = (
  λ plan.
      let n = numbers_of l first (static_at_first l first init) is plan.instances (plan.reaches first init) in
      (n.0, record { numbers = n.1; reaches = λ s i. run_exact l atoms numbering s (static_at_first l s i) is n.0 n.1 ∙ plan.reaches s i }),
  λ r. runs_are_plans l atoms numbering is r.0 r.1,
)
