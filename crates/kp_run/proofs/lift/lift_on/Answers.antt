use Rattle.std.proofs.Common.{subst}
use Rattle.kp_words.specs.Asked.{Asked, source_of}
use Rattle.kp_run_inputs.specs.Tabled.{AnswersTabled}
use Rattle.kp_run_inputs.proofs.Public.{tabled_goes, tabled_ends}
use Rattle.kp_run.specs.Lift.{LiftsPlan}
use Rattle.kp_run.proofs.Reading.{short_origin}
use Rattle.kp_run.proofs.lift.lift_on.Goals as goal

pub tabled_of-requires-clause-origin : goal.tabled_of-requires-clause-origin
tabled_of-requires-clause-origin c = short_origin (source_of c.args.asked.now) c.requires.origin.0 c.args.origin c.requires.origin.1

-- the command goes on
pub returns-in-Ok : goal.returns-in-Ok
returns-in-Ok c x y text merges front second origin third =
    let own = c.args.asked.now in
    let answers = subst (λ (k : Asked). AnswersTabled k.implicates x y (source_of own) merges c.tabled_of.result) c.asked.view_is (c.tabled_of.ensures x y (source_of own) merges front second origin) in
    tabled_goes own.implicates x y (source_of own) merges (λ g i. LiftsPlan g text) (λ g i j table o same h. h) c.in-Ok.tabled (subst (AnswersTabled own.implicates x y (source_of own) merges) c.in-Ok.is answers) c.lift_with.result (c.lift_with.ensures text third)

-- it ends before
pub returns-in-Err : goal.returns-in-Err
returns-in-Err c x y text merges front second origin third =
    let own = c.args.asked.now in
    let answers = subst (λ (k : Asked). AnswersTabled k.implicates x y (source_of own) merges c.tabled_of.result) c.asked.view_is (c.tabled_of.ensures x y (source_of own) merges front second origin) in
    tabled_ends own.implicates x y (source_of own) merges (λ g i. LiftsPlan g text) c.in-Err.early c.settle.result (subst (AnswersTabled own.implicates x y (source_of own) merges) c.in-Err.is answers) c.settle.ensures
