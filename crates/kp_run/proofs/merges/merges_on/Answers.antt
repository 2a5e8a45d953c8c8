use Rattle.std.proofs.Common.{[], subst}
use Rattle.kp_words.specs.Asked.{of_mode, Asked}
use Rattle.kp_run_inputs.specs.SourceTables.{from_mode}
use Rattle.kp_run_inputs.specs.Tabled.{AnswersTabled}
use Rattle.kp_run_inputs.proofs.Public.{tabled_goes, tabled_ends}
use Rattle.kp_run.specs.Merges.{MergesGround}
use Rattle.kp_run.proofs.merges.merges_on.Goals as goal

-- the command goes on
pub returns-in-Ok : goal.returns-in-Ok
returns-in-Ok c x y front second =
    let own = c.args.asked.now in
    let answers = subst (λ (k : Asked). AnswersTabled k.implicates x y (of_mode k.mode) [] c.tabled_of.result) c.asked.view_is (c.tabled_of.ensures x y (of_mode _) [] front second (from_mode _)) in
    tabled_goes own.implicates x y (of_mode own.mode) [] (λ g i. MergesGround g) (λ g i j table o same h. h) c.in-Ok.tabled (subst (AnswersTabled own.implicates x y (of_mode own.mode) []) c.in-Ok.is answers) c.list.result c.list.ensures

-- it ends before
pub returns-in-Err : goal.returns-in-Err
returns-in-Err c x y front second =
    let own = c.args.asked.now in
    let answers = subst (λ (k : Asked). AnswersTabled k.implicates x y (of_mode k.mode) [] c.tabled_of.result) c.asked.view_is (c.tabled_of.ensures x y (of_mode _) [] front second (from_mode _)) in
    tabled_ends own.implicates x y (of_mode own.mode) [] (λ g i. MergesGround g) c.in-Err.early c.settle.result (subst (AnswersTabled own.implicates x y (of_mode own.mode) []) c.in-Err.is answers) c.settle.ensures
