use Rattle.std.proofs.Common.{◌≡◌, ◌++◌, not, filter, drop}
use Rattle.kp_ground_semantics.specs.Ground.{is_idle, lasting}
use Rattle.kp_ground.proofs.lasting.without_idle.Given as goal

-- with the effects that are left come all
abbrev pub invariant-loop-effect : goal.invariant-loop-effect
invariant-loop-effect l = l.row ++ filter (λ e. not (is_idle l.pre l.effects e)) (drop l.effect-index l.effects) ≡ lasting l.pre l.effects
