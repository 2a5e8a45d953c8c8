use Rattle.std.proofs.Common.{◌≡◌, drop, fold, map}
use Rattle.kp_base.specs.Lit.{negated}
use Rattle.kp_base.specs.LitSet.{with_lit}
use Rattle.kp_write.specs.Facts.{opposites}
use Rattle.kp_ktask.proofs.effects.opposites.Given as goal

-- with the literals that are left come all
abbrev pub invariant-loop-lit : goal.invariant-loop-lit
invariant-loop-lit l = fold (λ set m. with_lit m set) l.set (map negated (drop l.lit-index l.lits)) ≡ opposites l.lits
