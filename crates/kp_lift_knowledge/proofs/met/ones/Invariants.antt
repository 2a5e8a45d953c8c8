use Rattle.std.proofs.Common.{nat_lt}
use Rattle.kp_lift_knowledge.specs.Tabled.{Tells}
use Rattle.kp_lift_knowledge.proofs.met.ones.Given as goal

-- the bits below t are set
abbrev pub invariant-loop-t : goal.invariant-loop-t
invariant-loop-t l = Tells l.n l.row (λ s. nat_lt s l.t)
