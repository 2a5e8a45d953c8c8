use Rattle.std.proofs.Common.{◌∙◌, ap, Err}
use Rattle.kp_run_prepare.proofs.Ended.{texts_end, problem_ends}
use Rattle.kp_run_prepare.proofs.preparing.prepare.Goals as goal

-- the files have a problem
pub returns-in-Ok : goal.returns-in-Ok
returns-in-Ok c d p first second = problem_ends c.args.implicates d p c.in-Ok.lifted (c.in-Ok.ensures.resolved d p first second) c.on_problem.result c.on_problem.ensures

-- the files are refused
pub returns-in-Err : goal.returns-in-Err
returns-in-Err c d p first second =
    texts_end c.args.implicates d p c.in-Err.stop c.ended_by.result (λ r is. c.read_files.ensures.refused d p r first second (c.in-Err.is ∙ ap Err is)) c.ended_by.ensures
