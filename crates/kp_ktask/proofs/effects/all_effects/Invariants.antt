use Rattle.std.proofs.Common.{◌≡◌, ◌++◌, ◌-◌}
use Rattle.kp_law_ktask.specs.Task.{effects_from}
use Rattle.kp_ktask.proofs.effects.all_effects.Given as goal

-- with the tags that are left come all
abbrev pub invariant-loop-tag : goal.invariant-loop-tag
invariant-loop-tag l = l.row ++ effects_from l.atoms l.tag (l.tags - l.tag) l.effects ≡ effects_from l.atoms 0 l.tags l.effects
