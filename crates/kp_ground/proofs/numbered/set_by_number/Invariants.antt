use Rattle.std.proofs.Common.{◌≡◌, drop, fold, map}
use Rattle.kp_base.specs.LitSet.{with_lit, set_of}
use Rattle.kp_ground_semantics.specs.Ground.{numbered}
use Rattle.kp_ground_flatten.specs.Literals.{lit_view}
use Rattle.kp_ground.proofs.numbered.set_by_number.Given as goal

-- with the literals that are left come all
abbrev pub invariant-loop-lit : goal.invariant-loop-lit
invariant-loop-lit l = fold (λ set x. with_lit x set) l.set (map (λ m. numbered l.atoms (lit_view m)) (drop l.lit-index l.lits)) ≡ set_of (map (λ m. numbered l.atoms (lit_view m)) l.lits)
