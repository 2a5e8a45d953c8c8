use Rattle.std.proofs.Common.{subst}
use Rattle.kp_run_solve.specs.Operators.{IsInside}
use Rattle.kp_run_solve.specs.Solving.{TellsClassical}
use Rattle.kp_run_solve.proofs.Searches.{inside}
use Rattle.kp_run_solve.proofs.Told.{found_told}
use Rattle.kp_run_solve.proofs.solving.solve_classical.Goals as goal

pub returns : goal.returns
returns c many =
    found_told c.args.budget c.args.task.now (TellsClassical c.args.ground.now) c.in_ok-found.found c.tell_classical.result c.in_ok-found.ensures.finds
    (c.tell_classical.ensures (subst (λ n. IsInside n c.in_ok-found.found) many (inside c.args.task.now c.args.budget c.in_ok-found.found c.in_ok-found.ensures.tells)))
