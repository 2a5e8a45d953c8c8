use Rattle.std.proofs.Common.{take}
use Rattle.std.specs.List.{list_any}
use Rattle.kp_base.specs.Lit.{negated}
use Rattle.kp_lift_knowledge.specs.Known.{known}
use Rattle.kp_lift_knowledge.specs.Tabled.{Tells}
use Rattle.kp_lift_knowledge.proofs.met.Met.by_any_negation.Given as goal

abbrev pub invariant-loop-l : goal.invariant-loop-l
invariant-loop-l l = Tells l.table.tags l.self (λ t. list_any (λ x. known l.table t (negated x)) (take l.l-index l.lits))
