use Rattle.std.proofs.Common.{◌≡◌, drop, fold}
use Rattle.kp_base.specs.LitSet.{with_lit, set_of}
use Rattle.kp_base.proofs.lit_set.LitSet.of.Given as goal

-- with the literals that are left come all
abbrev pub invariant-loop-lit : goal.invariant-loop-lit
invariant-loop-lit l = fold (λ set x. with_lit x set) l.set (drop l.lit-index l.lits) ≡ set_of l.lits
