use Rattle.std.proofs.Common.{◌≡◌, ◌-◌, ◌^◌, min, take}
use Rattle.kp_cover.specs.Covered.{ways}
use Rattle.kp_cover.proofs.deny.ways.Given as goal

-- those of the tags so far
abbrev pub invariant-loop-tag : goal.invariant-loop-tag
invariant-loop-tag l = l.ways ≡ min (ways (take l.tag-index l.tags)) (2 ^ 64 - 1)
