use Rattle.std.proofs.Common.{◌≡◌, ◌++◌, map, drop}
use Rattle.kp_ground_semantics.specs.Ground.{numbered}
use Rattle.kp_init.proofs.clauses.literals.Given as goal

-- with the literals that are left come all
abbrev pub invariant-loop-lit : goal.invariant-loop-lit
invariant-loop-lit l = l.row ++ map (numbered l.atoms) (drop l.lit-index l.lits) ≡ map (numbered l.atoms) l.lits
