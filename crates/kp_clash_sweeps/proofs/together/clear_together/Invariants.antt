use Rattle.std.proofs.Common.{[], ◌∷◌}
use Rattle.kp_clash_exclusive.specs.Removed.{Shrinks}
use Rattle.kp_clash_sweeps.proofs.together.clear_together.Given as goal

-- what was removed so far
abbrev pub invariant-loop-other : goal.invariant-loop-other
invariant-loop-other l = Shrinks (l.action ∷ []) l.fn.pairs l.pairs
