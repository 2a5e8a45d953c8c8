use Rattle.std.proofs.Common.{◌≡◌, [], ◌∷◌, ◌++◌, map, drop}
use Rattle.kp_base.specs.Lit.{negated}
use Rattle.kp_base.specs.LitSet.{set_of}
use Rattle.kp_init.proofs.one_of.add_pairs.Given as goal

-- with the literals that are left come all
abbrev pub invariant-loop-other : goal.invariant-loop-other
invariant-loop-other l = l.clauses ++ map (λ y. set_of (negated l.first ∷ negated y ∷ [])) (drop l.other-index l.others) ≡ l.fn.clauses ++ map (λ y. set_of (negated l.first ∷ negated y ∷ [])) l.others
