use Rattle.std.proofs.Common.{◌≡◌, ◌++◌, drop, flat_map, map}
use Rattle.kp_names.specs.View.{cond_view, lifted_view}
use Rattle.kp_ground_instances.specs.Counts.{kept_view}
use Rattle.kp_ground_joins.specs.Joining.{if_settled}
use Rattle.kp_ground_joins.proofs.keeping.keep_settled.Given as goal

-- with those that are left come all
abbrev pub invariant-loop-objects : goal.invariant-loop-objects
invariant-loop-objects l = map kept_view l.kept ++ flat_map (if_settled (lifted_view l.statics) (cond_view l.pre) l.number) (drop l.objects-index l.rows) ≡ map kept_view l.fn.kept ++ flat_map (if_settled (lifted_view l.statics) (cond_view l.pre) l.number) l.rows
