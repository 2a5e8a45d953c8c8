use Rattle.std.proofs.Common.{take}
use Rattle.kp_primes.specs.Held.{formula}
use Rattle.kp_width.specs.Rows.{AreRows}
use Rattle.kp_width.proofs.measure.rows_of.Given as goal

-- the rows of the targets so far
abbrev pub invariant-loop-target : goal.invariant-loop-target
invariant-loop-target l = AreRows l.limit l.bound l.problem.ground.now (formula l.problem.primes.now) (take l.target-index l.targets) l.rows
