use Rattle.std.proofs.Common.{map, option_map, length, sym, ap, ◌∙◌}
use Rattle.kp_base.specs.ActionNames.{action_name}
use Rattle.kp_run_inputs.specs.Tabled.{ground_in}
use Rattle.kp_run_solve.specs.Operators.{acts_among}
use Rattle.kp_run_solve.proofs.Operators.{are_named}
use Rattle.kp_run_solve.proofs.Told.{told_operators}
use Rattle.kp_run_solve.proofs.telling.tell_operators.Goals as goal

pub returns : goal.returns
returns c =
    let x = c.args.translated.now in
    let g = ground_in x.tabled in
    let names = ap (λ ops. map (action_name g) (acts_among (length g.actions) ops)) (sym c.slice.ensures) ∙ c.in_ok-plan.ensures in
    let named = are_named g x.tabled.table c.args.operators.now c.in_ok-written.written c.in_ok-plan.plan (rw x.is_task at c.requires) (rw x.is_task at c.in_ok-written.ensures) names in
    told_operators (option_map (λ n. n.now) c.args.name) g x.tabled.table c.args.operators.now c.in_ok-written.written c.in_ok-plan.plan c.tell_plan.result named c.tell_plan.ensures
