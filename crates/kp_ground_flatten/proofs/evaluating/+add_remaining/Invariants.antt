use Rattle.std.proofs.Common.{◌≡◌, ◌++◌, [], map, take, flat_map}
use Rattle.kp_ground_semantics.specs.Static.{remaining}
use Rattle.kp_names.specs.View.{lifted_view}
use Rattle.kp_ground_flatten.specs.Nodes.{cond_view}
use Rattle.kp_ground_flatten.proofs.evaluating.+add_remaining.Given as goal

-- the literals of the parts before this one are added
abbrev pub invariant-parts : goal.invariant-parts
invariant-parts l = l.conds ≡ l.fn.conds ++ flat_map (remaining (lifted_view l.statics) []) (map cond_view (take l.part-index l.part-items))
