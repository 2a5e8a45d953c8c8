use Rattle.std.proofs.Common.{subst, IfOk}
use Rattle.kp_words.specs.Asked.{Asked, source_of}
use Rattle.kp_run_inputs.specs.Tabled.{ground_in, formula_in, AnswersTabled}
use Rattle.kp_run_inputs.proofs.Public.{tabled_goes, tabled_ends}
use Rattle.kp_run_solve.specs.Solving.{SolvesGround}
use Rattle.kp_run_solve.proofs.Public.{ground_is_solved_by_models}
use Rattle.kp_run.proofs.Reading.{short_origin}
use Rattle.kp_run.proofs.solve.solve_on.Goals as goal

pub tabled_of-requires-clause-origin : goal.tabled_of-requires-clause-origin
tabled_of-requires-clause-origin c = short_origin (source_of c.args.asked.now) c.requires.origin.0 c.args.origin c.requires.origin.1

-- the command goes on
pub returns-in-Ok : goal.returns-in-Ok
returns-in-Ok c x y merges front second origin =
    let own = c.args.asked.now in
    let answers = subst (λ (k : Asked). AnswersTabled k.implicates x y (source_of own) merges c.tabled_of.result) c.asked.view_is (c.tabled_of.ensures x y (source_of own) merges front second origin) in
    tabled_goes own.implicates x y (source_of own) merges (SolvesGround own.classical own.budget) (ground_is_solved_by_models own.classical own.budget) c.in-Ok.tabled (subst (AnswersTabled own.implicates x y (source_of own) merges) c.in-Ok.is answers) c.solve_table.result
    (subst (λ (k : Asked). IfOk c.solve_table.result (SolvesGround k.classical k.budget (ground_in c.in-Ok.tabled) (formula_in c.in-Ok.tabled) c.in-Ok.tabled.table)) c.asked.view_is c.solve_table.ensures)

-- it ends before
pub returns-in-Err : goal.returns-in-Err
returns-in-Err c x y merges front second origin =
    let own = c.args.asked.now in
    let answers = subst (λ (k : Asked). AnswersTabled k.implicates x y (source_of own) merges c.tabled_of.result) c.asked.view_is (c.tabled_of.ensures x y (source_of own) merges front second origin) in
    tabled_ends own.implicates x y (source_of own) merges (SolvesGround own.classical own.budget) c.in-Err.early c.settle.result (subst (AnswersTabled own.implicates x y (source_of own) merges) c.in-Err.is answers) c.settle.ensures
