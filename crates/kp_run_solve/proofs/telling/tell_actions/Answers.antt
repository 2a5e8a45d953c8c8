use Rattle.std.proofs.Common.{map, sym, ap, ◌∙◌, length}
use Rattle.kp_base.specs.ActionNames.{action_name}
use Rattle.kp_run_solve.specs.Operators.{acts_among}
use Rattle.kp_run_solve.proofs.Operators.{all_actions}
use Rattle.kp_run_solve.proofs.Told.{told_actions}
use Rattle.kp_run_solve.proofs.telling.tell_actions.Goals as goal

pub returns : goal.returns
returns c n inside =
    let g = c.args.ground.now in
    let names = ap (map (action_name g)) (sym (all_actions (length g.actions) c.args.actions.now inside) ∙ ap (acts_among (length g.actions)) (sym c.slice.ensures)) ∙ c.in_ok-plan.ensures in
    told_actions g c.args.actions.now n c.in_ok-plan.plan c.tell_plan.result names c.tell_plan.ensures
