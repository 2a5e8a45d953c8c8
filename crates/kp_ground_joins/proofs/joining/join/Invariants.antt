use Rattle.std.proofs.Common.{◌≡◌, ◌≤◌, ◌+◌}
use Rattle.kp_names.specs.View.{schema_view, lifted_view}
use Rattle.kp_ground_semantics.specs.Partial.{partial_bindings, partials_to}
use Rattle.kp_ground_joins.proofs.joining.join.Given as goal

-- the partial bindings of as many parameters, and how many there were of all lengths up to this one
abbrev pub invariant-loop-range : goal.invariant-loop-range
invariant-loop-range l = record {
  level : l.rows ≡ partial_bindings (lifted_view l.statics) (schema_view l.schema) l.range-index;
  counted : l.spent ≡ l.fn.spent + partials_to (lifted_view l.statics) (schema_view l.schema) l.range-index;
  few : l.spent ≤ l.most;
}
