use Rattle.std.proofs.Common.{◌≡◌, drop}
use Rattle.kp_ground.specs.Gathered.{gather}
use Rattle.kp_ground.proofs.literals.add_literals.Given as goal

-- with the literals that are left come all
abbrev pub invariant-loop-lit : goal.invariant-loop-lit
invariant-loop-lit l = gather l.limit l.atoms (drop l.lit-index l.lits) ≡ gather l.limit l.fn.atoms l.lits
