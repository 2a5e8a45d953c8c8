use Rattle.std.proofs.Common.{◌≡◌, drop, fold}
use Rattle.std.specs.List.{flat_map}
use Rattle.kp_base.specs.LitSet.{with_lit}
use Rattle.kp_cover.proofs.needed.insert_preconditions.Given as goal

-- with the actions that are left come all
abbrev pub invariant-loop-a : goal.invariant-loop-a
invariant-loop-a l = fold (λ s x. with_lit x s) l.set (flat_map (λ a. a.pre) (drop l.a-index l.actions)) ≡ fold (λ s x. with_lit x s) l.fn.set (flat_map (λ a. a.pre) l.actions)
