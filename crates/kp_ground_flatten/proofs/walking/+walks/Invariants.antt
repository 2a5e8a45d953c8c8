use Rattle.std.proofs.Common.{◌≡◌, ◌++◌, map, fold, take, flat_map}
use Rattle.kp_names_semantics.specs.Lifted.{bindings}
use Rattle.kp_names.specs.View.{eff_view, lifted_view}
use Rattle.kp_ground_semantics.specs.Flattening.{flat}
use Rattle.kp_ground_flatten.proofs.walking.+walks.Given as goal

-- the flat effects of the parts before this one are handed over
abbrev pub invariant-walk-parts : goal.invariant-walk-parts
invariant-walk-parts g l = record {
  binding : l.objects.items ≡ l.fn.objects.items;
  so_far : l.sink ≡ fold g.S.Sink.takes l.fn.sink (flat_map (flat (lifted_view l.statics) l.fn.objects.items) (map eff_view (take l.part-index l.part-items)));
}

-- those of the body under the lists before this one
abbrev pub invariant-walk_each-numbers : goal.invariant-walk_each-numbers
invariant-walk_each-numbers g l = record {
  binding : l.objects.items ≡ l.fn.objects.items;
  so_far : l.sink ≡ fold g.S.Sink.takes l.fn.sink (flat_map (λ os. flat (lifted_view l.statics) (l.fn.objects.items ++ os) (eff_view l.eff)) (take l.number (bindings l.ranges)));
}
