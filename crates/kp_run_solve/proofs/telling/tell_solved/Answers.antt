use Rattle.std.proofs.Common.{option_map, sym, subst, IfOk}
use Rattle.kp_run_inputs.specs.Tabled.{ground_in, formula_in}
use Rattle.kp_run_solve.specs.Solving.{TellsSolved}
use Rattle.kp_run_solve.proofs.telling.tell_solved.Goals as goal

-- there is no plan
pub returns-in-NoPlan : goal.returns-in-NoPlan
returns-in-NoPlan c =
    let name = option_map (λ n. n.now) c.args.name in
    let t = c.args.translated.now.tabled in
    subst (λ found. IfOk c.tell_no_plan.result (TellsSolved name (ground_in t) (formula_in t) t.table found)) (sym c.in-NoPlan.is) (c.tell_no_plan.ensures name)
