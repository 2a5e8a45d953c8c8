use Rattle.std.proofs.Common.{◌≡◌, map, fold, take, flat_map}
use Rattle.kp_names.specs.View.{lifted_view}
use Rattle.kp_ground_flatten.specs.Nodes.{eff_view}
use Rattle.kp_ground_flatten.proofs.Views.{flat_under}
use Rattle.kp_ground_flatten.proofs.handing.+hand_bound.Given as goal

-- the flat effects of the parts before this one are handed over
abbrev pub invariant-parts : goal.invariant-parts
invariant-parts g l = record {
  kept : l.conds ≡ l.fn.conds;
  so_far : l.sink ≡ fold g.S.Sink.takes l.fn.sink (flat_map (flat_under (lifted_view l.statics) l.fn.conds) (map eff_view (take l.part-index l.part-items)));
}
