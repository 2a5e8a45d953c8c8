use Rattle.kp_clash_sweeps.proofs.sweep.clear_action.Goals as goal

pub clear_effects-requires-clause-noted : goal.clear_effects-requires-clause-noted
clear_effects-requires-clause-noted c = c.requires c.args.action.now (c.is_small.ensures c.if-is_small.true)
