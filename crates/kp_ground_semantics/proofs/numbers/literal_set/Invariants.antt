use Rattle.std.proofs.Common.{◌≡◌, drop, fold, map}
use Rattle.kp_base.specs.LitSet.{with_lit}
use Rattle.kp_ground_semantics.specs.Ground.{numbered, numbered_set}
use Rattle.kp_ground_semantics.proofs.numbers.literal_set.Given as goal

-- with the literals that are left come all
abbrev pub invariant-loop-lit : goal.invariant-loop-lit
invariant-loop-lit l = fold (λ set x. with_lit x set) l.set (map (numbered l.atoms) (drop l.lit-index l.lits)) ≡ numbered_set l.atoms l.lits
