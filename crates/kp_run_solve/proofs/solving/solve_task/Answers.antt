use Rattle.std.proofs.Common.{option_map}
use Rattle.kp_run_inputs.specs.Tabled.{ground_in, formula_in}
use Rattle.kp_run_solve.specs.Solving.{TellsSolved}
use Rattle.kp_run_solve.proofs.Searches.{inside}
use Rattle.kp_run_solve.proofs.Told.{found_told}
use Rattle.kp_run_solve.proofs.solving.solve_task.Goals as goal

-- the operators that are found are the task's
pub tell_solved-requires : goal.tell_solved-requires
tell_solved-requires c = inside c.args.translated.now.task c.args.budget c.in_ok-found.found c.in_ok-found.ensures.tells

pub returns : goal.returns
returns c =
    let x = c.args.translated.now in
    let t = x.tabled in
    found_told c.args.budget x.task (TellsSolved (option_map (λ n. n.now) c.args.name) (ground_in t) (formula_in t) t.table) c.in_ok-found.found c.tell_solved.result c.in_ok-found.ensures.finds c.tell_solved.ensures
