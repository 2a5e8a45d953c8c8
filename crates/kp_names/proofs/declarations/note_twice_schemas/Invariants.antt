use Rattle.std.proofs.Common.{◌≡◌, drop, map}
use Rattle.kp_tree_grammar.specs.View.{schema_view}
use Rattle.kp_names_semantics.specs.Faults.{repeated, twice_in}
use Rattle.kp_names.specs.Noted.{noted, names_of}
use Rattle.kp_names.proofs.declarations.note_twice_schemas.Given as goal

-- with those that are left come all
abbrev pub invariant-loop-schema : goal.invariant-loop-schema
invariant-loop-schema l = noted l.first (repeated l.seen (names_of (map schema_view (drop l.schema-index l.schemas)))) ≡ noted l.fn.first (twice_in (names_of (map schema_view l.schemas)))
