use Rattle.std.proofs.Common.{◌≡◌, drop, fold}
use Rattle.kp_base.specs.LitSet.{with_lit}
use Rattle.kp_cover.proofs.needed.insert_all.Given as goal

-- with the literals that are left come all
abbrev pub invariant-loop-l : goal.invariant-loop-l
invariant-loop-l l = fold (λ s x. with_lit x s) l.set (drop l.l-index l.lits) ≡ fold (λ s x. with_lit x s) l.fn.set l.lits
