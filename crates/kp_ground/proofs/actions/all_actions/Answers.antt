use Rattle.std.proofs.Common.{subst}
use Rattle.kp_base.specs.Lists.{Member}
use Rattle.kp_ground_instances.specs.Counts.{kept_view}
use Rattle.kp_ground.proofs.Kept.{member_there}
use Rattle.kp_ground.proofs.actions.all_actions.Goals as goal

pub action-requires-clause-kept : goal.action-requires-clause-kept
action-requires-clause-kept c = subst (λ is. Member is (kept_view c.one-item.result)) c.requires.kept (member_there c.args.kept.now c.loop-one.one-index c.one-item.result c.loop-one-test.true c.one-item.is)
