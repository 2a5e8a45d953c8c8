use Rattle.std.proofs.Common.{subst}
use Rattle.kp_run_inputs.specs.Tabled.{ground_in, formula_in}
use Rattle.kp_run_inputs.specs.Tasks.{AnswersTexts}
use Rattle.kp_run_inputs.proofs.Public.{task_goes, task_ends}
use Rattle.kp_run.specs.Translate.{IsPut}
use Rattle.kp_run.proofs.translate.translate_with.Goals as goal

-- the task is within the limits
pub put_texts-requires : goal.put_texts-requires
put_texts-requires c = let t = c.args.tabled.now in (subst (AnswersTexts (ground_in t) t.table) c.in-Ok.is c.written_of.ensures).1

pub returns-in-Ok : goal.returns-in-Ok
returns-in-Ok c =
    let t = c.args.tabled.now in
    task_goes (ground_in t) t.table (IsPut c.args.command.now (ground_in t) (formula_in t) t.table) c.put_texts.result (subst (AnswersTexts (ground_in t) t.table) c.in-Ok.is c.written_of.ensures).0 c.put_texts.ensures

-- it isn't
pub returns-in-Err : goal.returns-in-Err
returns-in-Err c =
    let t = c.args.tabled.now in
    task_ends (ground_in t) t.table (IsPut c.args.command.now (ground_in t) (formula_in t) t.table) c.in-Err.early c.settle.result (subst (AnswersTexts (ground_in t) t.table) c.in-Err.is c.written_of.ensures) c.settle.ensures
