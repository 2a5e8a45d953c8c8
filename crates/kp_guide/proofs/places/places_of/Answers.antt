use Rattle.kp_guide.proofs.Placing.{places_on}
use Rattle.kp_guide.proofs.places.places_of.Goals as goal
use Rattle.std.proofs.Common.{subst, sym, take, ◌+◌}
use Rattle.kp_guide.specs.Placing.{ArePlaces}

-- the place of one more
pub loop-fact-preserved : goal.loop-fact-preserved
loop-fact-preserved c =
    let fs = c.args.some.now in
    let j = c.loop-fact.fact-index in
    subst (ArePlaces (take (j + 1) fs) c.args.facts.now.keys c.place_of.new.facts.keys) (sym c.in_ok-push.ensures.ok)
    (places_on fs j c.args.facts.now.keys c.loop-fact.facts.keys c.place_of.new.facts.keys c.loop-fact.places c.in_ok-place_of.field-0 c.loop-fact-test.true c.loop-fact.invariant c.in_ok-place_of.ensures)
