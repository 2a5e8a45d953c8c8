use Rattle.std.proofs.Common.{◌≡◌, ◌≤◌, ◌++◌, drop, take, length, flat_map}
use Rattle.kp_names.specs.View.{cond_view, lifted_view}
use Rattle.kp_ground_joins.specs.Joining.{tried}
use Rattle.kp_ground_joins.proofs.extending.extend_one.Given as goal

-- the room begins with the binding; with the objects that are left come all
abbrev pub invariant-loop-object : goal.invariant-loop-object
invariant-loop-object l = record {
  front : take (length l.binding) l.objects.items ≡ l.binding;
  few : length l.more ≤ l.most;
  so_far : l.more ++ flat_map (tried (lifted_view l.statics) (cond_view l.pre) l.binding) (drop l.object-index l.range) ≡ l.fn.more ++ flat_map (tried (lifted_view l.statics) (cond_view l.pre) l.binding) l.range;
}
