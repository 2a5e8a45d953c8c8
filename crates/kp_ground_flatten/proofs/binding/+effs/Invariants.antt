use Rattle.std.proofs.Common.{◌≡◌, ◌++◌, map, take}
use Rattle.kp_names_semantics.specs.Lifted.{bindings}
use Rattle.kp_names.specs.View as owned
use Rattle.kp_ground_flatten.specs.Bound.{bound_eff}
use Rattle.kp_ground_flatten.specs.Nodes.{eff_view}
use Rattle.kp_ground_flatten.proofs.binding.+effs.Given as goal

-- the parts before this one are bound
abbrev pub invariant-effects-parts : goal.invariant-effects-parts
invariant-effects-parts l = record {
  kept : l.objects.items ≡ l.fn.objects.items;
  so_far : map eff_view l.bound.items ≡ map (bound_eff l.fn.objects.items) (map owned.eff_view (take l.part-index l.parts));
}

-- the body is bound under the lists before this one
abbrev pub invariant-bodies-numbers : goal.invariant-bodies-numbers
invariant-bodies-numbers l = record {
  kept : l.objects.items ≡ l.fn.objects.items;
  so_far : map eff_view l.bound.items ≡ map (λ os. bound_eff (l.fn.objects.items ++ os) (owned.eff_view l.eff)) (take l.number (bindings l.ranges));
}
