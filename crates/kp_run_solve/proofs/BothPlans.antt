-- A plan of the written files, with the plan of the given texts that it strips to.
use Rattle.std.proofs.Common.{◌≡◌, ◌∙◌, ℕ, true, List, Some, sym, ap, subst}
use Rattle.kp_base.specs.declared.ground.TagTable.{TagTable}
use Rattle.kp_base.specs.Exclusive.{IsClashFree}
use Rattle.kp_base.proofs.Cases.{some_alike}
use Rattle.kp_law_tagged_machine.proofs.Public.{no_clash_under_exclusive_pairs}
use Rattle.kp_names_semantics.specs.Steps.{Step}
use Rattle.kp_names_semantics.specs.Plans.{HasProblem, IsPlan}
use Rattle.kp_names_semantics.specs.Strip.{strip}
use Rattle.kp_classic.specs.Steps.{start, succeeds}
use Rattle.kp_law_ktask.specs.Task.{task_of}
use Rattle.kp_law_ktask.proofs.Public.{tagged_plans_are_accepted, tagged_steps_strip}
use Rattle.kp_law_translation.specs.OfTrees.{ground_of, initial_of}
use Rattle.kp_law_translation.specs.Tables.{IsTableFor}
use Rattle.kp_law_translation.specs.Written.{translation_of}
use Rattle.kp_law_translation.proofs.Public.{tables_can_be_written, translations_are_sound}
use Rattle.kp_run_solve.specs.Solving.{AreNamed}
use Rattle.kp_run_solve.proofs.Plans.{named_accepted as named_plans_are_accepted}

pub record AreBothPlans (domain problem : List ℕ) (x : HasProblem domain problem) (table : TagTable) (written plan : List Step) : Type 0 where
  pub is_written : IsPlan (translation_of x.domain x.problem table).domain (translation_of x.domain x.problem table).problem written
  pub strips : strip written ≡ Some plan
  pub is_plan : IsPlan domain problem plan

-- so are the names of operators that succeed in the task, and of the actions among them
pub both_plans : (domain problem : List ℕ) (x : HasProblem domain problem) (table : TagTable) → IsTableFor x.domain x.problem table → IsClashFree (ground_of x.domain x.problem) (initial_of x.domain x.problem)
    → (ops : List ℕ) (written plan : List Step) → AreNamed (ground_of x.domain x.problem) table ops written plan
    → succeeds (task_of (ground_of x.domain x.problem) table) (start (task_of (ground_of x.domain x.problem) table)) ops ≡ true → AreBothPlans domain problem x table written plan
both_plans domain problem x table for free ops written plan named succeed =
    let ground = ground_of x.domain x.problem in
    let writable = tables_can_be_written domain problem x table for in
    let is_written = (tagged_plans_are_accepted ground table writable written).1 (named_plans_are_accepted ground table writable ops written plan named succeed) in
    let names = tagged_steps_strip ground table writable written named.machine named.steps_are in
    let strips : strip written ≡ Some plan = names.strips ∙ ap Some (some_alike names.names plan (sym names.are_names ∙ named.actions_are)) in
    let sound = translations_are_sound domain problem x table for (no_clash_under_exclusive_pairs ground (initial_of x.domain x.problem) free) written is_written in
    let one : sound.stripped ≡ plan = cc (sym sound.strips ∙ strips) in
    record { is_written = is_written; strips = strips; is_plan = subst (IsPlan domain problem) one sound.is_plan }
