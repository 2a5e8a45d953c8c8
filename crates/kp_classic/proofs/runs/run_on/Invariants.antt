use Rattle.std.proofs.Common.{◌≡◌, drop, true, length}
use Rattle.kp_classic.specs.Fits.{are_below}
use Rattle.kp_classic.specs.States.{has}
use Rattle.kp_classic.proofs.Stepping.{Rests}
use Rattle.kp_classic.proofs.runs.run_on.Given as goal

-- what is left leads where all operators lead
abbrev pub invariant-loop-op : goal.invariant-loop-op
invariant-loop-op l = Rests l.task (drop l.op-index l.ops) (has l.state.hold) l.ops (has l.initial.state.hold) × (l.state.facts ≡ length l.task.facts) × (l.next.facts ≡ length l.task.facts) × (are_below (length l.task.ops) (drop l.op-index l.ops) ≡ true)
