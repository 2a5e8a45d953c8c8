use Rattle.std.proofs.Common.{◌≡◌, [], drop}
use Rattle.kp_check.specs.Marks.{open_marks}
use Rattle.kp_check.proofs.marks.open_marks.Given as goal

-- the rest goes on from the values and marks so far
abbrev pub invariant-loop-number : goal.invariant-loop-number
invariant-loop-number l = record { count : l.count ≡ l.number-index; goes_on : open_marks l.ground l.walk.values.items (drop l.number-index l.steps) l.count l.marks.items ≡ open_marks l.ground l.fn.from.items l.steps 0 [] }
