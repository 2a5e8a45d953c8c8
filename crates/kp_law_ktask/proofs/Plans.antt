-- The plans of the two texts are the lists that the machine accepts.
use Rattle.std.proofs.Common.{◌≡◌, ap, ap₂}
use Rattle.kp_base.specs.declared.ground.Ground.{Ground}
use Rattle.kp_base.specs.declared.ground.TagTable.{TagTable}
use Rattle.kp_write.specs.Written.{domain_text, problem_text}
use Rattle.kp_write.specs.Named.{domain_of, problem_of}
use Rattle.kp_write.proofs.Public.{plans_of_texts_are_runs}
use Rattle.kp_law_tagged_machine.proofs.Public.{accepted_lists_are_plans}
use Rattle.kp_law_ktask.specs.Task.{facts_of, start_of, task_of}
use Rattle.kp_law_ktask.specs.ByName.{goal_of, names_of, ops_of, domain_file, problem_file}
use Rattle.kp_law_ktask.specs.Writable.{IsWritableTask}
use Rattle.kp_law_ktask.specs.Laws.{TaggedPlansAreAccepted, TaggedPlansAreSound}
use Rattle.kp_law_ktask.proofs.Runs.{runs_are_accepted}
use Rattle.kp_law_ktask.proofs.Whole.{tasks_are_tasks}
use Rattle.kp_law_ktask.proofs.Named.{tasks_are_named}
use Rattle.kp_law_ktask.proofs.Strips.{steps_strip}

-- the texts of the task by number are those of the task by name
pub domain_named : (g : Ground) (table : TagTable) → IsWritableTask g table → domain_of (task_of g table) ≡ domain_file g table
domain_named g table w = ap (λ os. domain_text (names_of g (facts_of g table)) os) (tasks_are_named g table w).operators

pub problem_named : (g : Ground) (table : TagTable) → IsWritableTask g table → problem_of (task_of g table) ≡ problem_file g table
problem_named g table w = ap₂ (λ init goal. problem_text init goal) (tasks_are_named g table w).start (tasks_are_named g table w).goal

pub plans_are_accepted : TaggedPlansAreAccepted
plans_are_accepted g table w steps =
    let plans = plans_of_texts_are_runs (names_of g (facts_of g table)) (ops_of g table) (names_of g (start_of table)) (names_of g (goal_of g)) (tasks_are_tasks g table w) steps in
    let runs = runs_are_accepted g table w steps in
    rw (domain_named g table w, problem_named g table w) (λ p. runs.0 (plans.0 p), λ r. plans.1 (runs.1 r))

pub plans_sound : TaggedPlansAreSound
plans_sound g i table w right valid never steps plan =
    let r = (plans_are_accepted g table w steps).0 plan in
    record { machine = r.0; stripped_to = steps_strip g table w steps r.0 r.1.steps_are; plan = accepted_lists_are_plans g i table right valid never r.0 r.1.accepted }
