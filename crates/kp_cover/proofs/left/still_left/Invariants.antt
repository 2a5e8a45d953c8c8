use Rattle.std.proofs.Common.{◌≡◌, ◌++◌, drop}
use Rattle.kp_cover.specs.Inside.{still_left}
use Rattle.kp_cover.proofs.left.still_left.Given as goal

-- with the places to come these are all
abbrev pub invariant-loop-place : goal.invariant-loop-place
invariant-loop-place l = l.row ++ still_left l.known l.tags (drop l.place-index l.places) ≡ still_left l.known l.tags l.places
