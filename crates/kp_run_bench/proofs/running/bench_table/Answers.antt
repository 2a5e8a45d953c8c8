use Rattle.std.proofs.Common.{[], sym, subst, IfOk}
use Rattle.kp_law_ktask.specs.Task.{task_of}
use Rattle.kp_words.specs.Asked.{of_mode}
use Rattle.kp_words.specs.Options.{usual_limit}
use Rattle.kp_run_inputs.specs.declared.tabled.Tabled.{Tabled}
use Rattle.kp_run_inputs.specs.Tabled.{ground_in, formula_in, IsTabledOf}
use Rattle.kp_run_inputs.specs.Tasks.{AnswersTask}
use Rattle.kp_run_inputs.proofs.Public.{task_goes, task_ends}
use Rattle.kp_run_solve.specs.Solving.{Searches}
use Rattle.kp_run_bench.specs.Bench.{TellsBench, BenchesGround}
use Rattle.kp_run_bench.proofs.Safe.{is_safe}
use Rattle.kp_run_bench.proofs.running.bench_table.Goals as goal

-- the table is that of the mode
pub bench_task-requires : goal.bench_task-requires
bench_task-requires c =
    let source = of_mode c.args.command.now.mode in
    let same = subst (AnswersTask c.args.tabled) c.in-Ok.is c.translated_of.ensures in
    let x = c.in-Ok.translated in
    is_safe usual_limit c.requires.0 c.requires.1 source [] x.tabled (subst (IsTabledOf usual_limit c.requires.0 c.requires.1 source []) (sym same) c.requires.2) x.fits

-- the task is within the limits
pub returns-in-Ok : goal.returns-in-Ok
returns-in-Ok c =
    let a = c.args.command.now in
    let x = c.in-Ok.translated in
    let t = x.tabled in
    let told = TellsBench a (ground_in t) (formula_in t) t.table in
    subst (λ (v : Tabled). IfOk c.bench_task.result (BenchesGround a (ground_in v) (formula_in v) v.table)) (subst (AnswersTask c.args.tabled) c.in-Ok.is c.translated_of.ensures)
    (task_goes (ground_in t) t.table (Searches (task_of (ground_in t) t.table) a.budget told) c.bench_task.result x.fits
    (subst (λ task. IfOk c.bench_task.result (Searches task a.budget told)) x.is_task c.bench_task.ensures))

-- it isn't
pub returns-in-Err : goal.returns-in-Err
returns-in-Err c =
    let a = c.args.command.now in
    let t = c.args.tabled in
    task_ends (ground_in t) t.table (Searches (task_of (ground_in t) t.table) a.budget (TellsBench a (ground_in t) (formula_in t) t.table)) c.in-Err.early c.settle.result
    (subst (AnswersTask t) c.in-Err.is c.translated_of.ensures) c.settle.ensures
