-- The operators of a task that succeed are the steps that the machine accepts.
use Rattle.std.proofs.Common.{◌≡◌, true, false, List, [], ◌∷◌, Option, Some, None, option_map, map, refl, sym, ◌∙◌, subst}
use Rattle.std.proofs.lemmas.Bool.{false≢true}
use Rattle.kp_base.specs.declared.ground.Ground.{Ground}
use Rattle.kp_base.specs.declared.ground.TagTable.{TagTable}
use Rattle.kp_base.specs.Machine.{MachineStep}
use Rattle.kp_classic.specs.Steps.{start, succeeds}
use Rattle.kp_names_semantics.specs.Steps.{Step}
use Rattle.kp_write.specs.Operators.{Op}
use Rattle.kp_write.specs.Runs.{step_of}
use Rattle.kp_law_ktask.specs.Task.{task_of}
use Rattle.kp_law_ktask.specs.ByName.{op_at}
use Rattle.kp_law_ktask.specs.Accepted.{op_number, step_at}
use Rattle.kp_law_ktask.proofs.Public.{machine_step_is_named, operators_do_machine_steps}
use Rattle.kp_run_solve.specs.Laws.{NamedPlansAreAccepted, NoPlanIsAccepted}

-- steps of the machine that have names have operators
operators_of : (g : Ground) (table : TagTable) (ms : List MachineStep) (ss : List Step) → map (step_at g table) ms ≡ map Some ss → (os : List Op) × (map (op_at g table) ms ≡ map Some os)
operators_of g table [] ss e = ([], refl)
operators_of g table (m ∷ ms) [] e = absurd cc
operators_of g table (m ∷ ms) (s ∷ ss) e =
    let here : step_at g table m ≡ Some s = cc in
    let rest : map (step_at g table) ms ≡ map Some ss = cc in
    let first = by (op_at g table m) refl (sym (machine_step_is_named g table m) ∙ here) in
    let others = operators_of g table ms ss rest in
    (first.0 ∷ others.0, cc (first.1, others.1))
  where
    by : (o : Option Op) → op_at g table m ≡ o → option_map step_of o ≡ Some s → (x : Op) × (op_at g table m ≡ Some x)
    by None is f = absurd cc
    by (Some x) is f = (x, is)

pub named_accepted : NamedPlansAreAccepted
named_accepted g table w ops written plan named plans =
    let os = operators_of g table named.machine written named.steps_are in (
      named.machine,
      record {
        steps_are = named.steps_are;
        accepted = sym (operators_do_machine_steps g table w named.machine os.0 os.1) ∙ subst (λ ks. succeeds (task_of g table) (start (task_of g table)) ks ≡ true) (sym named.numbers) plans;
      },
    )

pub none_accepted : NoPlanIsAccepted
none_accepted g table w none steps ms accepted =
    let os = operators_of g table ms steps accepted.steps_are in
    false≢true (sym (none (map (op_number g) ms)) ∙ (operators_do_machine_steps g table w ms os.0 os.1 ∙ accepted.accepted))
