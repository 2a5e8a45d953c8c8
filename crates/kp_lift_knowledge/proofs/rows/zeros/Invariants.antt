use Rattle.kp_lift_knowledge.specs.Tabled.{AreClear}
use Rattle.kp_lift_knowledge.proofs.rows.zeros.Given as goal

abbrev pub invariant-loop : goal.invariant-loop
invariant-loop l = AreClear l.tags l.counter l.rows.items
