use Rattle.std.proofs.Common.{◌∙◌}
use Rattle.kp_base.proofs.Places.{one_more_taken}
use Rattle.kp_names_semantics.specs.Lifted.{bindings}
use Rattle.kp_ground_instances.proofs.bindings.all_bindings.Goals as goal

pub loop-number-preserved : goal.loop-number-preserved
loop-number-preserved c = c.in_ok-push.ensures.ok ∙ one_more_taken (bindings c.args.ranges.now) c.loop-number.rows c.loop-number.number c.in_ok-binding_at.field-0 c.in_ok-binding_at.ensures c.loop-number.invariant
