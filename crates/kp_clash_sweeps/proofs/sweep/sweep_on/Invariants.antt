use Rattle.kp_clash_exclusive.specs.Removed.{Shrinks}
use Rattle.kp_clash_sweeps.proofs.sweep.sweep_on.Given as goal

-- what was removed so far
abbrev pub invariant-loop : goal.invariant-loop
invariant-loop l = Shrinks l.ground.actions l.fn.pairs l.pairs
