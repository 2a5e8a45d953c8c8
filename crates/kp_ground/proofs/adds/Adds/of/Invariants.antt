use Rattle.std.proofs.Common.{◌≡◌, ℕ, ◌++◌, drop}
use Rattle.kp_ground.specs.Adds.{adds_of, adds_at}
use Rattle.kp_ground.proofs.adds.Adds.of.Given as goal

-- with the effects that are left come all
abbrev pub invariant-loop-effect : goal.invariant-loop-effect
invariant-loop-effect l = (n : ℕ) → adds_at l.adds n ++ adds_of (drop l.effect-index l.effects) n ≡ adds_of l.effects n
