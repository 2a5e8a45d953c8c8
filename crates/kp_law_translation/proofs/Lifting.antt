-- Actions that are there have lifted lists with steps by name: where the machine accepts them these are a plan of what is written, and with a complete table each plan of the texts has one.
use Rattle.std.proofs.Common.{◌≡◌, ◌+◌, ℕ, suc, Bool, true, false, if◌then◌else◌, List, [], ◌∷◌, ◌++◌, Option, Some, None, option_map, map, length, nat_lt, ltb-true, slice_get, refl, ap, subst, ◌∙◌, arith, append-nil}
use Rattle.std.proofs.lemmas.Bool.{and_parts, and_from, lt-ltb}
use Rattle.std.proofs.lemmas.Option.{slice_get_within}
use Rattle.std.specs.List.{list_all}
use Rattle.kp_base.specs.declared.ground.Action.{Action}
use Rattle.kp_base.specs.declared.ground.Ground.{Ground}
use Rattle.kp_base.specs.declared.ground.Merge.{Merge}
use Rattle.kp_base.specs.declared.ground.TagTable.{TagTable}
use Rattle.kp_base.specs.Machine.{MachineStep, Known, start, after_act, after_merge}
use Rattle.kp_base.proofs.Lists.{all_member}
use Rattle.kp_base.proofs.Places.{element}
use Rattle.kp_law_tagged_machine.specs.Lifts.{adds, after_merges, merges_taken, lift_from, lift_of}
use Rattle.kp_law_tagged_machine.specs.Completeness.{AreActions}
use Rattle.kp_law_tagged_machine.proofs.Public.{StandFrom, merges_stand_from_zero, lifted_lists_strip, no_plan_is_lost}
use Rattle.kp_names_semantics.specs.Steps.{Step}
use Rattle.kp_init.proofs.Public.{plan_of_texts}
use Rattle.kp_write.specs.Operators.{Op}
use Rattle.kp_write.specs.Runs.{step_of}
use Rattle.kp_law_ktask.specs.ByName.{op_of, merge_op, op_at}
use Rattle.kp_base.specs.ActionNames.{action_name}
use Rattle.kp_law_ktask.specs.Accepted.{step_at}
use Rattle.kp_law_ktask.proofs.Public.{machine_step_is_named, tagged_plans_are_accepted, tagged_steps_strip}
use Rattle.kp_law_translation.specs.OfTrees.{ground_of, initial_of}
use Rattle.kp_law_translation.proofs.Starts.{states_are_models as initial_states_are_models}
use Rattle.kp_law_translation.proofs.Tables.{tables_written as tables_can_be_written}
use Rattle.kp_law_translation.specs.Laws.{LiftsAreWritten, PlansLift}

-- ---- actions that are there

pub there : (g : Ground) (ns : List ℕ) → list_all (λ n. nat_lt n (length g.actions)) ns ≡ true → AreActions g ns
there g ns h = record { each = λ n i. ltb-true n (length g.actions) (all_member (λ m. nat_lt m (length g.actions)) ns n i h) }

-- numbers that have names are those of actions
named_there : (g : Ground) (ns : List ℕ) (names : List Step) → map (action_name g) ns ≡ map Some names → list_all (λ n. nat_lt n (length g.actions)) ns ≡ true
named_there g [] names e = refl
named_there g (n ∷ ns) [] e = absurd cc
named_there g (n ∷ ns) (x ∷ names) e =
    let here : action_name g n ≡ Some x = cc in
    let rest : map (action_name g) ns ≡ map Some names = cc in
    and_from (nat_lt n (length g.actions)) (list_all (λ m. nat_lt m (length g.actions)) ns) (by (slice_get g.actions n) refl here) (named_there g ns names rest)
  where
    by : (o : Option Action) → slice_get g.actions n ≡ o → option_map (λ (a : Action). a.name) o ≡ Some x → nat_lt n (length g.actions) ≡ true
    by None is f = absurd cc
    by (Some a) is f = lt-ltb n (length g.actions) (slice_get_within g.actions n a is)

-- ---- steps by name

-- these are steps by name of the steps of the machine: each of its steps is there
record Have_names (g : Ground) (table : TagTable) (ms : List MachineStep) : Type 0 where
  steps : List Step
  are : map (step_at g table) ms ≡ map Some steps

-- one more step, of this operator
one_more : (g : Ground) (table : TagTable) (m : MachineStep) (ms : List MachineStep) (o : Op) → op_at g table m ≡ Some o → Have_names g table ms → Have_names g table (m ∷ ms)
one_more g table m ms o is rest = record { steps = step_of o ∷ rest.steps; are = let first : step_at g table m ≡ Some (step_of o) = machine_step_is_named g table m ∙ ap (option_map step_of) is in cc (first, rest.are) }

-- those that are taken have names
merges_named : (g : Ground) (table : TagTable) (n : ℕ) (ms : List Merge) (k : Known) (rest : List MachineStep) → StandFrom table n ms → Have_names g table rest → Have_names g table (merges_taken n ms k ++ rest)
merges_named g table n [] k rest stand h = h
merges_named g table n (m ∷ ms) k rest stand h = by (λ k'. merges_named g table (suc n) ms k' rest (λ i. ap (slice_get table.merges) (shift n i) ∙ stand (suc i)) h) (adds m k)
  where
    shift : (n i : ℕ) → suc n + i ≡ n + suc i
    shift n i = omega arith

    plus_zero : (n : ℕ) → n ≡ n + 0
    plus_zero n = omega arith

    by : ((k' : Known) → Have_names g table (merges_taken (suc n) ms k' ++ rest)) → (b : Bool) → Have_names g table ((if b then MachineStep.merge n ∷ merges_taken (suc n) ms (after_merge (Some m) k) else merges_taken (suc n) ms k) ++ rest)
    by later true =
        let at : slice_get table.merges n ≡ Some m = ap (slice_get table.merges) (plus_zero n) ∙ stand 0 in
        one_more g table (MachineStep.merge n) (merges_taken (suc n) ms (after_merge (Some m) k) ++ rest) (merge_op g.atoms n m) (ap (option_map (merge_op g.atoms n)) at) (later (after_merge (Some m) k))
    by later false = later k

-- so do lifted actions that are there
lifted_named : (g : Ground) (table : TagTable) (ns : List ℕ) (k : Known) → list_all (λ n. nat_lt n (length g.actions)) ns ≡ true → Have_names g table (lift_from g table k ns)
lifted_named g table [] k h = subst (Have_names g table) (append-nil (merges_taken 0 table.merges k)) (merges_named g table 0 table.merges k [] (merges_stand_from_zero table) (record { steps = []; are = refl }))
lifted_named g table (n ∷ ns) k h =
    let parts = and_parts (nat_lt n (length g.actions)) (list_all (λ m. nat_lt m (length g.actions)) ns) h in
    let a = element g.actions n (ltb-true n (length g.actions) parts.0) in
    let next = after_act (slice_get g.actions n) (after_merges table.merges k) in
    merges_named g table 0 table.merges k (MachineStep.act n ∷ lift_from g table next ns) (merges_stand_from_zero table)
    (one_more g table (MachineStep.act n) (lift_from g table next ns) (op_of g.atoms (length table.tags) a.0) (ap (option_map (op_of g.atoms (length table.tags))) a.1) (lifted_named g table ns next parts.1))

pub lift_named : (g : Ground) (table : TagTable) (ns : List ℕ) → list_all (λ n. nat_lt n (length g.actions)) ns ≡ true → (steps : List Step) × (map (step_at g table) (lift_of g table ns) ≡ map Some steps)
lift_named g table ns h = let r = lifted_named g table ns (start table) h in (r.steps, r.are)

-- ---- the laws

pub lifts_written : LiftsAreWritten
lifts_written domain problem x table h numbers steps accepted =
    let g = ground_of x.domain x.problem in
    let writable = tables_can_be_written domain problem x table h in
    let r = tagged_steps_strip g table writable steps (lift_of g table numbers) accepted.steps_are in
    record {
      is_plan = (tagged_plans_are_accepted g table writable steps).1 (lift_of g table numbers, accepted);
      names = r.names;
      are_names = subst (λ (ns : List ℕ). map (action_name g) ns ≡ map Some r.names) (lifted_lists_strip g table numbers) r.are_names;
      strips = r.strips;
    }

pub plans_lift : PlansLift
plans_lift domain problem x table has of_atoms h complete plan is_plan =
    let g = ground_of x.domain x.problem in
    let model = (initial_states_are_models x.domain x.problem x.no_fault).0 has in
    let run = (plan_of_texts domain problem x model.state model.model plan).0 is_plan in
    let named = lift_named g table run.0 (named_there g run.0 plan run.1.names) in
    record {
      numbers = run.0;
      are_names = run.1.names;
      steps = named.0;
      accepted = record { steps_are = named.1; accepted = no_plan_is_lost g (initial_of x.domain x.problem) table of_atoms model h.right complete run.0 run.1.plan };
    }
