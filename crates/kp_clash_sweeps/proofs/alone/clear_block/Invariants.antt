use Rattle.std.proofs.Common.{[], ◌∷◌}
use Rattle.kp_clash_exclusive.specs.Removed.{Shrinks}
use Rattle.kp_clash_sweeps.proofs.alone.clear_block.Given as goal

-- what was removed so far
abbrev pub invariant-loop-turn : goal.invariant-loop-turn
invariant-loop-turn l = Shrinks (l.action ∷ []) l.fn.pairs l.pairs
