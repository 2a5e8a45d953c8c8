-- Some list that the machine accepts strips to actions exactly where some plan of what is written strips to their names.
use Rattle.std.proofs.Common.{◌↔◌, ◌≡◌, ℕ, true, List, Some, map, sym, ap, ◌∙◌, subst}
use Rattle.kp_base.specs.declared.ground.TagTable.{TagTable}
use Rattle.kp_base.specs.Machine.{MachineStep, accepts, stripped}
use Rattle.kp_base.proofs.Cases.{some_alike}
use Rattle.kp_law_tagged_machine.specs.Lifts.{lift_of}
use Rattle.kp_law_tagged_machine.proofs.Public.{lifted_lists_are_best}
use Rattle.kp_run_prepare.proofs.Public.{numbers_of_names_once}
use Rattle.kp_names_semantics.specs.Steps.{Step}
use Rattle.kp_names_semantics.specs.Plans.{HasProblem}
use Rattle.kp_plans.specs.declared.step.PlanStep.{PlanStep}
use Rattle.kp_plans.specs.PlanFiles.{step_names}
use Rattle.kp_plans.specs.Found.{action_of}
use Rattle.kp_law_ktask.proofs.Public.{tagged_plans_are_accepted, tagged_steps_strip}
use Rattle.kp_law_translation.specs.OfTrees.{ground_of}
use Rattle.kp_law_translation.specs.Tables.{IsTableFor}
use Rattle.kp_law_translation.proofs.Public.{tables_can_be_written, lifted_steps_have_names, lifts_written}
use Rattle.kp_run_inputs.proofs.Public.{found_numbers_are_actions, found_actions_are_named}
use Rattle.kp_law_runs.specs.Commands.{StripsTo}

pub lifted_plans : (domain problem : List ℕ) (x : HasProblem domain problem) (table : TagTable) → IsTableFor x.domain x.problem table → (steps : List PlanStep) (ns : List ℕ) → map (action_of (ground_of x.domain x.problem).actions) steps ≡ map Some ns
    → ((ms : List MachineStep) × (accepts (ground_of x.domain x.problem) table ms ≡ true) × (stripped ms ≡ ns)) ↔ StripsTo x.domain x.problem table (step_names steps)
lifted_plans domain problem x table for steps ns known =
    let g = ground_of x.domain x.problem in
    let named = found_actions_are_named g steps ns known in
    let writable = tables_can_be_written domain problem x table for in (
      (λ w.
          let best = subst (λ z. accepts g table (lift_of g table z) ≡ true) w.2 (lifted_lists_are_best g table w.0 w.1) in
          let lift = lifted_steps_have_names g table ns (found_numbers_are_actions g steps ns known) in
          let r = lifts_written domain problem x table for ns lift.0 (record { steps_are = lift.1; accepted = best }) in
          (lift.0, r.is_plan, r.strips ∙ ap Some (some_alike r.names (step_names steps) (sym r.are_names ∙ named)))),
      (λ w.
          let a = (tagged_plans_are_accepted g table writable w.0).0 w.1 in
          let r = tagged_steps_strip g table writable w.0 a.0 a.1.steps_are in
          let same : r.names ≡ step_names steps = by_some r.names (step_names steps) (sym r.strips ∙ w.2) in
          (a.0, a.1.accepted, numbers_of_names_once x.domain x.problem x.no_fault (step_names steps) (stripped a.0) ns (r.are_names ∙ ap (λ (z : List Step). map Some z) same) named)),
    )
  where
    by_some : (xs ys : List Step) → Some xs ≡ Some ys → xs ≡ ys
    by_some xs ys e = cc
