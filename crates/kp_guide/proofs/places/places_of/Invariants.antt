use Rattle.std.proofs.Common.{take}
use Rattle.kp_guide.specs.Placing.{ArePlaces}
use Rattle.kp_guide.proofs.places.places_of.Given as goal

-- the places of the facts so far
abbrev pub invariant-loop-fact : goal.invariant-loop-fact
invariant-loop-fact l = ArePlaces (take l.fact-index l.some) l.initial.facts.keys l.facts.keys l.places
