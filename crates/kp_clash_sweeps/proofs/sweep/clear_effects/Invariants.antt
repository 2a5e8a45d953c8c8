use Rattle.std.proofs.Common.{[], ◌∷◌}
use Rattle.kp_clash_exclusive.specs.Removed.{Shrinks}
use Rattle.kp_clash_sweeps.proofs.sweep.clear_effects.Given as goal

-- what was removed so far
abbrev pub invariant-loop-effect : goal.invariant-loop-effect
invariant-loop-effect l = Shrinks (l.action ∷ []) l.fn.pairs l.pairs
