use Rattle.std.proofs.Common.{length, map, drop, sym, ◌∙◌, ◌<◌, arith}
use Rattle.std.specs.List.{flat_map}
use Rattle.std.proofs.lemmas.Bool.{lt-ltb}
use Rattle.kp_ground.proofs.Gathers.{gathers_no_more_over_limit}
use Rattle.kp_ground_instances.specs.Counts.{kept_view}
use Rattle.kp_names.specs.View.{lifted_view}
use Rattle.kp_ground.specs.Passes.{literals_at}
use Rattle.kp_ground.proofs.LoopSteps.{known_there}
use Rattle.kp_ground.proofs.occurring.add_kept.Goals as goal

-- nothing more would come
pub returns-then-into-len : goal.returns-then-into-len
returns-then-into-len c =
    let limit = c.args.into.now.limit in
    let atoms = c.loop-one.into.atoms in
    let over : limit < length atoms = omega (arith, c.if-into-len.true, c.len.ensures, c.loop-one.invariant.limit) in
    sym (gathers_no_more_over_limit limit atoms (flat_map (literals_at (lifted_view c.args.statics.now)) (map kept_view (drop c.loop-one.one-index c.args.kept.now))) (lt-ltb limit (length atoms) over))
    ∙ c.loop-one.invariant.atoms

pub add_instance-requires : goal.add_instance-requires
add_instance-requires c = known_there (lifted_view c.args.statics.now) c.args.kept.now c.loop-one.one-index c.one-item.result c.loop-one-test.true c.one-item.is c.requires
