use Rattle.std.proofs.Common.{◌≡◌, drop}
use Rattle.std.specs.List.{flat_map}
use Rattle.kp_names_semantics.specs.Faults.{unless_among}
use Rattle.kp_names_semantics.specs.Types.{types}
use Rattle.kp_names_declared.specs.Collected.{domain_of}
use Rattle.kp_names.specs.Noted.{noted}
use Rattle.kp_names.proofs.declarations.note_kinds.Given as goal

-- with the words that are left come all
abbrev pub invariant-loop-kind : goal.invariant-loop-kind
invariant-loop-kind l = noted l.first (flat_map (unless_among (types (domain_of l.names))) (drop l.kind-index l.kinds)) ≡ noted l.fn.first (flat_map (unless_among (types (domain_of l.names))) l.kinds)
