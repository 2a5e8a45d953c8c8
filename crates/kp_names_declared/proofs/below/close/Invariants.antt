use Rattle.std.proofs.Common.{◌-◌}
use Rattle.kp_names_declared.specs.Steps.{IsClosing}
use Rattle.kp_names_declared.proofs.below.close.Given as goal

-- what stands under the names so far is there
abbrev pub invariant-names : goal.invariant-names
invariant-names l = IsClosing l.lines l.fn.names l.at l.names

abbrev pub decreases-names : goal.decreases-names
decreases-names l = 4294967296 - l.at
