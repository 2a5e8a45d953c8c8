use Rattle.std.proofs.Common.{◌∙◌, ap, Err}
use Rattle.kp_run_classical.proofs.Ended.{texts_end, has_facts}
use Rattle.kp_run_classical.proofs.posing.prepare_classical.Goals as goal

-- where nothing leaves the initial state open, each item is a literal
pub on_problem-requires : goal.on_problem-requires
on_problem-requires c = record { facts = has_facts c.args.domain.bytes c.args.problem.bytes c.in-Ok.lifted c.in-Ok.ensures.read }

-- the files have a problem
pub returns-in-Ok : goal.returns-in-Ok
returns-in-Ok c d p first second = c.on_problem.ensures d p (c.in-Ok.ensures.resolved d p first second)

-- the files are refused
pub returns-in-Err : goal.returns-in-Err
returns-in-Err c d p first second =
    texts_end d p c.in-Err.stop c.ended_by.result (λ r is. c.read_files.ensures.refused d p r first second (c.in-Err.is ∙ ap Err is)) c.ended_by.ensures
