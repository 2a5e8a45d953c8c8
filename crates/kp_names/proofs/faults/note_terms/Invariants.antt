use Rattle.std.proofs.Common.{◌≡◌, drop, map}
use Rattle.std.specs.List.{flat_map}
use Rattle.kp_tree_grammar.specs.View.{term_view}
use Rattle.kp_names_semantics.specs.Faults.{term_faults}
use Rattle.kp_names_declared.specs.Collected.{domain_of, problem_of}
use Rattle.kp_names.specs.Noted.{noted}
use Rattle.kp_names.proofs.faults.note_terms.Given as goal

-- with the terms that are left come all
abbrev pub invariant-loop-term : goal.invariant-loop-term
invariant-loop-term l = noted l.first (flat_map (term_faults (domain_of l.names) (problem_of l.names) l.scope) (map term_view (drop l.term-index l.terms))) ≡ noted l.fn.first (flat_map (term_faults (domain_of l.names) (problem_of l.names) l.scope) (map term_view l.terms))
