use Rattle.std.proofs.Common.{◌≡◌, ◌≤◌, ◌++◌, map, length}
use Rattle.kp_names.specs.View.{schema_view, lifted_view}
use Rattle.kp_ground_semantics.specs.Ground.{instance, kept_bindings}
use Rattle.kp_ground_instances.specs.Counts.{kept_view}
use Rattle.kp_ground_instances.proofs.KeptRest.{kept_rest}
use Rattle.kp_ground_instances.proofs.keeping.keep_all.Given as goal

-- with those that are left come all
abbrev pub invariant-loop-place : goal.invariant-loop-place
invariant-loop-place l = record {
  few : length l.kept ≤ l.most;
  so_far : map kept_view l.kept ++ kept_rest (lifted_view l.statics) l.number (schema_view l.schema) l.place ≡ map kept_view l.fn.kept ++ map (instance l.number) (kept_bindings (lifted_view l.statics) (schema_view l.schema));
}
