use Rattle.std.proofs.Common.{◌+◌, arith}
use Rattle.std.proofs.lemmas.List.{drop_more}
use Rattle.kp_lift.proofs.Ending.{goes_more, fails_here, goal_known, goal_unknown}
use Rattle.kp_lift.proofs.running.take_steps.Goals as goal

-- the steps fail at this one
pub returns-in-Some : goal.returns-in-Some
returns-in-Some c =
    let i = c.loop-step.step in
    record { ends = fails_here c.args.ground.now c.args.table.now c.args.knowing.now c.args.operators.now c.args.steps.now i c.loop-step.knowing c.loop-step.operators c.loop-step.invariant.goes _ _ c.take_step.new.knowing c.take_step.new.operators c.take_step.new.operators c.in-Some.literal (drop_more c.args.steps.now i 0 (omega arith)) (rw c.in-Some.is at c.in_ok-literal.ensures.ends) }

-- one more is taken
pub loop-step-preserved : goal.loop-step-preserved
loop-step-preserved c =
    let i = c.loop-step.step in
    record {
      about = c.take_step.ensures.about;
      goes = goes_more c.args.ground.now c.args.table.now c.args.knowing.now c.args.operators.now c.args.steps.now i c.loop-step.knowing c.loop-step.operators c.loop-step.invariant.goes (i + 1) _ _ _ (omega arith) (drop_more c.args.steps.now i 0 (omega arith)) (rw c.in_default.is at c.in_ok-literal.ensures.ends);
    }

-- they fail at the goal
pub returns-in-Some-2 : goal.returns-in-Some-2
returns-in-Some-2 c =
    let i = c.loop-step.step in
    record { ends = goal_unknown c.args.ground.now c.args.table.now c.args.knowing.now c.args.operators.now c.args.steps.now i c.loop-step.knowing c.loop-step.operators c.loop-step.invariant.goes c.reach_goal.new.operators c.in-Some-2.literal _ (omega arith) (omega arith) (rw c.in-Some-2.is at c.in_ok-literal-2.ensures.ends) }

-- or reach it
pub returns-in-None : goal.returns-in-None
returns-in-None c =
    let i = c.loop-step.step in
    record { ends = goal_known c.args.ground.now c.args.table.now c.args.knowing.now c.args.operators.now c.args.steps.now i c.loop-step.knowing c.loop-step.operators c.loop-step.invariant.goes c.reach_goal.new.operators (omega arith) (rw c.in-None.is at c.in_ok-literal-2.ensures.ends) }
