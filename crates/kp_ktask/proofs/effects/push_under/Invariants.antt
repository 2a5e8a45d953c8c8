use Rattle.std.proofs.Common.{◌≡◌, ◌++◌, drop}
use Rattle.std.specs.List.{flat_map}
use Rattle.kp_law_ktask.specs.Task.{effects_under}
use Rattle.kp_ktask.proofs.effects.push_under.Given as goal

-- with the effects that are left come all
abbrev pub invariant-loop-effect : goal.invariant-loop-effect
invariant-loop-effect l = l.row ++ flat_map (effects_under l.atoms l.tag) (drop l.effect-index l.effects) ≡ l.fn.row ++ flat_map (effects_under l.atoms l.tag) l.effects
