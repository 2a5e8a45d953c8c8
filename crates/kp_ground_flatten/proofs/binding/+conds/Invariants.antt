use Rattle.std.proofs.Common.{◌≡◌, map, take}
use Rattle.kp_names.specs.View as owned
use Rattle.kp_ground_flatten.specs.Bound.{bound_cond}
use Rattle.kp_ground_flatten.specs.Nodes.{cond_view}
use Rattle.kp_ground_flatten.proofs.binding.+conds.Given as goal

-- the parts before this one are bound
abbrev pub invariant-conditions-parts : goal.invariant-conditions-parts
invariant-conditions-parts l = map cond_view l.bound.items ≡ map (bound_cond l.objects) (map owned.cond_view (take l.part-index l.parts))
