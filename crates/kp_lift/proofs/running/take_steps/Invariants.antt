use Rattle.kp_lift.specs.Running.{IsAbout}
use Rattle.kp_lift.proofs.Ending.{GoesOn}
use Rattle.kp_lift.proofs.running.take_steps.Given as goal

-- what is answered of the steps that are left is answered of all
abbrev pub invariant-loop-step : goal.invariant-loop-step
invariant-loop-step l = record { about : IsAbout l.ground l.table l.knowing; goes : GoesOn l.ground l.table l.fn.knowing l.fn.operators l.steps l.step l.knowing l.operators }
