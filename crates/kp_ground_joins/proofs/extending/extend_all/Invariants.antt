use Rattle.std.proofs.Common.{◌≡◌, ◌≤◌, ◌++◌, drop, length}
use Rattle.kp_names.specs.View.{cond_view, lifted_view}
use Rattle.kp_ground_joins.specs.Joining.{all_tried}
use Rattle.kp_ground_joins.proofs.extending.extend_all.Given as goal

-- with the bindings that are left come all
abbrev pub invariant-loop-binding : goal.invariant-loop-binding
invariant-loop-binding l = record {
  few : length l.more ≤ l.most;
  so_far : l.more ++ all_tried (lifted_view l.statics) (cond_view l.pre) l.range (drop l.binding-index l.bindings) ≡ all_tried (lifted_view l.statics) (cond_view l.pre) l.range l.bindings;
}
