use Rattle.std.proofs.Common.{◌≡◌, map, drop}
use Rattle.kp_names.specs.View.{conds_of, cond_view, lifted_view}
use Rattle.kp_ground_semantics.specs.Partial.{all_unrefuted}
use Rattle.kp_ground_joins.proofs.unrefuted.+unrefuted_in.Given as goal

-- none is refuted where none of those that are left is
abbrev pub invariant-loop-part : goal.invariant-loop-part
invariant-loop-part l = all_unrefuted (lifted_view l.statics) l.objects (conds_of (map cond_view (drop l.part-index l.part-items))) ≡ all_unrefuted (lifted_view l.statics) l.objects (conds_of (map cond_view l.part-items))
