use Rattle.std.proofs.Common.{◌≡◌, true, take}
use Rattle.std.specs.List.{list_all}
use Rattle.kp_lift_knowledge.specs.Known.{known}
use Rattle.kp_lift_knowledge.proofs.asking.first_missing.Given as goal

-- the literals so far are known
abbrev pub invariant-loop-l : goal.invariant-loop-l
invariant-loop-l l = list_all (known l.table 0) (take l.l-index l.lits) ≡ true
