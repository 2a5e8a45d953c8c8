use Rattle.std.proofs.Common.{◌≡◌, [], map, take, true}
use Rattle.std.specs.List.{list_all}
use Rattle.kp_ground_semantics.specs.Static.{settled}
use Rattle.kp_names.specs.View.{lifted_view}
use Rattle.kp_ground_flatten.specs.Nodes.{cond_view}
use Rattle.kp_ground_flatten.proofs.evaluating.+is_settled.Given as goal

-- the parts before this one are settled
abbrev pub invariant-parts : goal.invariant-parts
invariant-parts l = list_all (settled (lifted_view l.statics) []) (map cond_view (take l.part-index l.part-items)) ≡ true
