use Rattle.std.proofs.Common.{cond, take}
use Rattle.kp_lift_knowledge.specs.Known.{known}
use Rattle.kp_lift_knowledge.specs.Tabled.{Turns, touches}
use Rattle.kp_lift_knowledge.proofs.acting.take_over_all.Given as goal

abbrev pub invariant-loop-e : goal.invariant-loop-e
invariant-loop-e l = Turns l.fn.table l.table (λ t x. cond (touches (take l.e-index l.effects) x) (known l.next t x) (known l.fn.table t x))
