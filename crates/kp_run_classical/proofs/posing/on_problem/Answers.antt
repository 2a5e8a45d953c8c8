use Rattle.kp_run_classical.proofs.Ended.{certain_ends, unsure_ends}
use Rattle.kp_run_classical.proofs.posing.on_problem.Goals as goal

-- something leaves the initial state open
pub returns-in-Some : goal.returns-in-Some
returns-in-Some c d p h = unsure_ends d p c.args.lifted.now h c.in-Some.place c.in-Some.is c.ended_by.result c.ended_by.ensures

-- nothing does
pub returns-in-None : goal.returns-in-None
returns-in-None c d p h = certain_ends d p c.args.lifted.now h c.in-None.is c.on_certain.result c.on_certain.ensures
