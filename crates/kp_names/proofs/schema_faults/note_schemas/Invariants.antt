use Rattle.std.proofs.Common.{◌≡◌, drop, map}
use Rattle.std.specs.List.{flat_map}
use Rattle.kp_tree_grammar.specs.View.{schema_view}
use Rattle.kp_names_semantics.specs.Faults.{schema_faults}
use Rattle.kp_names_declared.specs.Collected.{domain_of, problem_of}
use Rattle.kp_names.specs.Noted.{noted}
use Rattle.kp_names.proofs.schema_faults.note_schemas.Given as goal

-- with the schemas that are left come all
abbrev pub invariant-loop-schema : goal.invariant-loop-schema
invariant-loop-schema l = noted l.first (flat_map (schema_faults (domain_of l.names) (problem_of l.names)) (map schema_view (drop l.schema-index l.schemas))) ≡ noted l.fn.first (flat_map (schema_faults (domain_of l.names) (problem_of l.names)) (map schema_view l.schemas))
