use Rattle.std.proofs.Common.{◌≡◌, map, drop}
use Rattle.kp_names.specs.View.{conds_of, cond_view, lifted_view}
use Rattle.kp_ground_semantics.specs.Static.{all_settled}
use Rattle.kp_ground_instances.proofs.settling.+settled_in.Given as goal

-- all are settled where those that are left are
abbrev pub invariant-loop-part : goal.invariant-loop-part
invariant-loop-part l = all_settled (lifted_view l.statics) l.objects (conds_of (map cond_view (drop l.part-index l.part-items))) ≡ all_settled (lifted_view l.statics) l.objects (conds_of (map cond_view l.part-items))
