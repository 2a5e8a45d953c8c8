use Rattle.std.proofs.Common.{◌≡◌, drop, map}
use Rattle.std.specs.List.{flat_map}
use Rattle.kp_tree_grammar.specs.View.{lit_view}
use Rattle.kp_names_semantics.specs.Faults.{lit_faults}
use Rattle.kp_names_declared.specs.Collected.{domain_of, problem_of}
use Rattle.kp_names.specs.Noted.{noted}
use Rattle.kp_names.proofs.faults.note_lits.Given as goal

-- with the literals that are left come all
abbrev pub invariant-loop-lit : goal.invariant-loop-lit
invariant-loop-lit l = noted l.first (flat_map (lit_faults (domain_of l.names) (problem_of l.names)) (map lit_view (drop l.lit-index l.lits))) ≡ noted l.fn.first (flat_map (lit_faults (domain_of l.names) (problem_of l.names)) (map lit_view l.lits))
