use Rattle.std.proofs.Common.{◌≡◌, true, take}
use Rattle.std.specs.List.{list_all}
use Rattle.kp_lift_knowledge.specs.Known.{known}
use Rattle.kp_lift_knowledge.proofs.asking.is_known_under.Given as goal

-- the literal is known under the tags so far
abbrev pub invariant-loop-t : goal.invariant-loop-t
invariant-loop-t l = list_all (λ t. known l.table t l.lit) (take l.t-index l.tags) ≡ true
