use Rattle.kp_base.proofs.Places.{item_member}
use Rattle.kp_clash_sweeps.proofs.together.clear_place.Goals as goal

pub clear_one-requires-clause-other : goal.clear_one-requires-clause-other
clear_one-requires-clause-other c =
    let in-items = item_member c.slice-effects.result.now c.args.place c.index-effects-place.result c.if-place-effects.true c.index-effects-place.is in
    rw c.slice-effects.ensures at in-items
