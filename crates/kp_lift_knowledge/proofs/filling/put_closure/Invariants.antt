use Rattle.std.proofs.Common.{◌&&◌, ◌||◌, nat_eq, take}
use Rattle.kp_base.specs.Lit.{has}
use Rattle.kp_lift_knowledge.specs.Known.{known}
use Rattle.kp_lift_knowledge.specs.Tabled.{Turns}
use Rattle.kp_lift_knowledge.proofs.filling.put_closure.Given as goal

abbrev pub invariant-loop-l : goal.invariant-loop-l
invariant-loop-l l = Turns l.fn.table l.table (λ s x. known l.fn.table s x || (nat_eq s l.t && has (take l.l-index l.closure) x))
