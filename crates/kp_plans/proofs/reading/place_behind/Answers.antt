use Rattle.kp_plans.proofs.PlanPlaces.{place_on}
use Rattle.kp_plans.proofs.reading.place_behind.Goals as goal

pub returns : goal.returns
returns c = place_on c.args.bytes.now c.args.known c.line_feeds-line_feeds.result c.args.byte c.requires.place c.requires.onward c.line_feeds-line_feeds.ensures.value
