use Rattle.std.proofs.Common.{◌≡◌, drop}
use Rattle.kp_check.specs.Marks.{later_values}
use Rattle.kp_check.proofs.marks.walk_to.Given as goal

-- the rest goes on from the values so far
abbrev pub invariant-loop-number : goal.invariant-loop-number
invariant-loop-number l = later_values l.ground l.walk.values.items (drop l.number-index l.steps) l.left ≡ later_values l.ground l.fn.from.items l.steps l.count
