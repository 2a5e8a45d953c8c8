use Rattle.std.proofs.Common.{◌≡◌, take}
use Rattle.kp_cover.specs.Covering.{pick}
use Rattle.kp_cover.proofs.places.picked.Given as goal

abbrev pub invariant-loop-place : goal.invariant-loop-place
invariant-loop-place l = l.row ≡ pick l.clauses (take l.place-index l.places)
