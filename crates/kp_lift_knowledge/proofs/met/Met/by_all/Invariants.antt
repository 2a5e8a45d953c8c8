use Rattle.std.proofs.Common.{take}
use Rattle.std.specs.List.{list_all}
use Rattle.kp_lift_knowledge.specs.Known.{known}
use Rattle.kp_lift_knowledge.specs.Tabled.{Tells}
use Rattle.kp_lift_knowledge.proofs.met.Met.by_all.Given as goal

abbrev pub invariant-loop-l : goal.invariant-loop-l
invariant-loop-l l = Tells l.table.tags l.self (λ t. list_all (known l.table t) (take l.l-index l.lits))
