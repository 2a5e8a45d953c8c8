use Rattle.std.proofs.Common.{◌≡◌, ◌≤◌, ◌+◌, ◌*◌, ◌++◌, map, drop, take, length, sum_by}
use Rattle.kp_names.specs.View.{schema_view, lifted_view}
use Rattle.kp_ground_semantics.specs.Ground.{kept_bindings, kept_from, kept_instances}
use Rattle.kp_ground_semantics.specs.Weights.{weight}
use Rattle.kp_ground_semantics.specs.Partial.{schema_partials, partial_count}
use Rattle.kp_ground_instances.specs.Counts.{kept_view, capped}
use Rattle.kp_ground_joins.proofs.keeping.join_schemas.Given as goal

-- with the schemas that are left come all
abbrev pub invariant-loop-schema : goal.invariant-loop-schema
invariant-loop-schema l = record {
  few : l.spent ≤ l.most;
  counted : l.number ≡ l.schema-index;
  spent_so_far : l.spent + sum_by (schema_partials (lifted_view l.statics)) (map schema_view (drop l.schema-index l.schema-items)) ≡ partial_count (lifted_view l.statics);
  so_far : map kept_view l.kept ++ kept_from (lifted_view l.statics) l.number (map schema_view (drop l.schema-index l.schema-items)) ≡ kept_instances (lifted_view l.statics);
  weights : l.weight ≡ capped (sum_by (λ a. length (kept_bindings (lifted_view l.statics) (schema_view a)) * weight (schema_view a)) (take l.schema-index l.schema-items));
}
