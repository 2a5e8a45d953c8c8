use Rattle.std.proofs.Common.{option_map, subst, IfOk}
use Rattle.kp_law_ktask.specs.Task.{task_of}
use Rattle.kp_run_inputs.specs.declared.tabled.Tabled.{Tabled}
use Rattle.kp_run_inputs.specs.Tabled.{ground_in, formula_in}
use Rattle.kp_run_inputs.specs.Tasks.{AnswersTask}
use Rattle.kp_run_inputs.proofs.Public.{task_goes, task_ends}
use Rattle.kp_run_solve.specs.Solving.{Searches, SolvesGround, TellsSolved}
use Rattle.kp_run_solve.proofs.solving.solve_table.Goals as goal

-- the task is within the limits
pub returns-in-Ok : goal.returns-in-Ok
returns-in-Ok c =
    let name = option_map (λ n. n.now) c.args.name in
    let x = c.in-Ok.translated in
    let t = x.tabled in
    let told = TellsSolved name (ground_in t) (formula_in t) t.table in
    subst (λ (v : Tabled). IfOk c.solve_task.result (SolvesGround name c.args.budget (ground_in v) (formula_in v) v.table)) (subst (AnswersTask c.args.tabled) c.in-Ok.is c.translated_of.ensures)
    (task_goes (ground_in t) t.table (Searches (task_of (ground_in t) t.table) c.args.budget told) c.solve_task.result x.fits
    (subst (λ task. IfOk c.solve_task.result (Searches task c.args.budget told)) x.is_task c.solve_task.ensures))

-- it isn't
pub returns-in-Err : goal.returns-in-Err
returns-in-Err c =
    let t = c.args.tabled in
    task_ends (ground_in t) t.table (Searches (task_of (ground_in t) t.table) c.args.budget (TellsSolved (option_map (λ n. n.now) c.args.name) (ground_in t) (formula_in t) t.table)) c.in-Err.early c.settle.result
    (subst (AnswersTask t) c.in-Err.is c.translated_of.ensures) c.settle.ensures
