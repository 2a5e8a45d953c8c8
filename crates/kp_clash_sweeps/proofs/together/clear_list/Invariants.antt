use Rattle.std.proofs.Common.{[], ◌∷◌}
use Rattle.kp_clash_exclusive.specs.Removed.{Shrinks}
use Rattle.kp_clash_sweeps.proofs.together.clear_list.Given as goal

-- what was removed so far
abbrev pub invariant-loop : goal.invariant-loop
invariant-loop l = Shrinks (l.action ∷ []) l.fn.pairs l.pairs
