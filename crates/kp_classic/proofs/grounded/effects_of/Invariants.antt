use Rattle.std.proofs.Common.{◌≡◌, ◌++◌, map, drop}
use Rattle.kp_classic.specs.Grounded.{effect_of}
use Rattle.kp_classic.proofs.grounded.effects_of.Given as goal

-- with the effects that are left come all
abbrev pub invariant-loop-effect : goal.invariant-loop-effect
invariant-loop-effect l = l.row ++ map effect_of (drop l.effect-index l.effects) ≡ map effect_of l.effects
