use Rattle.std.proofs.Common.{subst}
use Rattle.kp_run_prepare.specs.Prepared.{AnswersPrepared}
use Rattle.kp_run_inputs.proofs.Going.{not_prepared}
use Rattle.kp_run_inputs.proofs.tables.tabled_of.Goals as goal

-- a command goes on from the files
pub returns-in-Ok : goal.returns-in-Ok
returns-in-Ok c d p source merges first second origin = c.with_table.ensures c.args.implicates d p source merges (subst (AnswersPrepared c.args.implicates d p) c.in-Ok.is (c.prepare.ensures d p first second)) origin

-- it ends early
pub returns-in-Err : goal.returns-in-Err
returns-in-Err c d p source merges first second origin = not_prepared c.args.implicates d p source merges c.in-Err.early (subst (AnswersPrepared c.args.implicates d p) c.in-Err.is (c.prepare.ensures d p first second))
