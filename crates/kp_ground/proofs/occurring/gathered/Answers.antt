use Rattle.kp_names.specs.View.{lifted_view}
use Rattle.kp_ground.proofs.Kept.{all_known}
use Rattle.kp_ground.proofs.occurring.gathered.Goals as goal

pub add_instances-requires : goal.add_instances-requires
add_instances-requires c = rw c.requires (all_known (lifted_view c.args.statics.now))
