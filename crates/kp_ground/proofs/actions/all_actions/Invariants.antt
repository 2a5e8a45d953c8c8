use Rattle.std.proofs.Common.{◌≡◌, ◌++◌, drop, map}
use Rattle.kp_ground_instances.specs.Counts.{kept_view}
use Rattle.kp_names.specs.View.{lifted_view}
use Rattle.kp_ground.specs.Passes.{action_at}
use Rattle.kp_ground.proofs.actions.all_actions.Given as goal

-- with the instances that are left come all
abbrev pub invariant-loop-one : goal.invariant-loop-one
invariant-loop-one l = l.row ++ map (action_at (lifted_view l.statics) l.atoms) (map kept_view (drop l.one-index l.kept)) ≡ map (action_at (lifted_view l.statics) l.atoms) (map kept_view l.kept)
