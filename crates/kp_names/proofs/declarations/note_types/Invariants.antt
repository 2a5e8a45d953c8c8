use Rattle.std.proofs.Common.{◌≡◌, drop, map}
use Rattle.kp_tree_grammar.specs.View.{typed_view}
use Rattle.kp_names_semantics.specs.Faults.{type_faults}
use Rattle.kp_names_declared.specs.Collected.{domain_of}
use Rattle.kp_names.specs.Noted.{noted}
use Rattle.kp_names.proofs.declarations.note_types.Given as goal

-- with the lines that are left come all
abbrev pub invariant-loop-line : goal.invariant-loop-line
invariant-loop-line l = noted l.first (type_faults (domain_of l.names) (map typed_view (drop l.line-index l.lines))) ≡ noted l.fn.first (type_faults (domain_of l.names) (map typed_view l.lines))
