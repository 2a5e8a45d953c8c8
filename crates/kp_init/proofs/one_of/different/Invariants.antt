use Rattle.std.proofs.Common.{◌≡◌, [], drop, fold}
use Rattle.kp_base.specs.Lit.{same_lit}
use Rattle.kp_base.proofs.Once.{added}
use Rattle.kp_init.proofs.one_of.different.Given as goal

-- with the literals that are left come all
abbrev pub invariant-loop-lit : goal.invariant-loop-lit
invariant-loop-lit l = fold (added same_lit) l.set.keys (drop l.lit-index l.lits) ≡ fold (added same_lit) [] l.lits
