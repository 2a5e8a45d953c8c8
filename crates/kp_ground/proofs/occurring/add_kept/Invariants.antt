use Rattle.std.proofs.Common.{◌≡◌, drop, map}
use Rattle.std.specs.List.{flat_map}
use Rattle.kp_ground.specs.Gathered.{gather}
use Rattle.kp_ground_instances.specs.Counts.{kept_view}
use Rattle.kp_names.specs.View.{lifted_view}
use Rattle.kp_ground.specs.Passes.{literals_at}
use Rattle.kp_ground.proofs.occurring.add_kept.Given as goal

-- with the instances that are left come all
abbrev pub invariant-loop-one : goal.invariant-loop-one
invariant-loop-one l = record {
  limit : l.into.limit ≡ l.fn.into.limit;
  atoms : gather l.fn.into.limit l.into.atoms (flat_map (literals_at (lifted_view l.statics)) (map kept_view (drop l.one-index l.kept))) ≡ gather l.fn.into.limit l.fn.into.atoms (flat_map (literals_at (lifted_view l.statics)) (map kept_view l.kept));
}
