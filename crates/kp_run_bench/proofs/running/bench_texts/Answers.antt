use Rattle.std.proofs.Common.{[], subst}
use Rattle.kp_words.specs.Asked.{of_mode, Asked}
use Rattle.kp_words.specs.Options.{usual_limit}
use Rattle.kp_run_inputs.specs.SourceTables.{from_mode}
use Rattle.kp_run_inputs.specs.Tabled.{AnswersTabled}
use Rattle.kp_run_inputs.proofs.Public.{tabled_goes, tabled_ends}
use Rattle.kp_run_bench.specs.Bench.{BenchesGround}
use Rattle.kp_run_bench.proofs.ByModels.{ground_by}
use Rattle.kp_run_bench.proofs.running.bench_texts.Goals as goal

-- the run goes on with the texts and the table of the mode
pub bench_table-requires : goal.bench_table-requires
bench_table-requires c =
    let d = c.args.texts.domain in
    let p = c.args.texts.problem in
    let answers = subst (λ (k : Asked). AnswersTabled usual_limit d p (of_mode k.mode) [] c.tabled_of.result) c.command.view_is (c.tabled_of.ensures d p (of_mode _) [] c.front-domain.ensures.front c.front-problem.ensures.front (from_mode _)) in
    (d, p, subst (AnswersTabled usual_limit d p (of_mode c.args.command.now.mode) []) c.in-Ok.is answers)

pub returns-in-Ok : goal.returns-in-Ok
returns-in-Ok c =
    let d = c.args.texts.domain in
    let p = c.args.texts.problem in
    let t = c.args.command.now in
    let answers = subst (λ (k : Asked). AnswersTabled usual_limit d p (of_mode k.mode) [] c.tabled_of.result) c.command.view_is (c.tabled_of.ensures d p (of_mode _) [] c.front-domain.ensures.front c.front-problem.ensures.front (from_mode _)) in
    tabled_goes usual_limit d p (of_mode t.mode) [] (BenchesGround t) (ground_by t) c.in-Ok.tabled (subst (AnswersTabled usual_limit d p (of_mode t.mode) []) c.in-Ok.is answers) c.bench_table.result c.bench_table.ensures

-- it ends before
pub returns-in-Err : goal.returns-in-Err
returns-in-Err c =
    let d = c.args.texts.domain in
    let p = c.args.texts.problem in
    let t = c.args.command.now in
    let answers = subst (λ (k : Asked). AnswersTabled usual_limit d p (of_mode k.mode) [] c.tabled_of.result) c.command.view_is (c.tabled_of.ensures d p (of_mode _) [] c.front-domain.ensures.front c.front-problem.ensures.front (from_mode _)) in
    tabled_ends usual_limit d p (of_mode t.mode) [] (BenchesGround t) c.in-Err.early c.settle.result (subst (AnswersTabled usual_limit d p (of_mode t.mode) []) c.in-Err.is answers) c.settle.ensures
