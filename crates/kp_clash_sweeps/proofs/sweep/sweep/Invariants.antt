use Rattle.kp_clash_exclusive.specs.Removed.{Shrinks}
use Rattle.kp_clash_sweeps.proofs.sweep.sweep.Given as goal

-- what was removed so far
abbrev pub invariant-loop-action : goal.invariant-loop-action
invariant-loop-action l = Shrinks l.ground.actions l.fn.pairs l.pairs
