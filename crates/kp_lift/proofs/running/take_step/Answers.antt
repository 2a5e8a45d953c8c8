use Rattle.kp_lift.proofs.Items.{action_at, pre_at}
use Rattle.kp_lift.proofs.running.take_step.Goals as goal

pub first_unknown-requires-clause-below : goal.first_unknown-requires-clause-below
first_unknown-requires-clause-below c = rw (c.slice.ensures.value, c.take_merges.ensures.about.atoms) (pre_at c.args.ground.now c.requires.ground _ _ c.at-action.ensures)

pub act-requires : goal.act-requires
act-requires c = record { below = rw c.take_merges.ensures.about.atoms (action_at c.args.ground.now c.requires.ground _ _ c.at-action.ensures) }
