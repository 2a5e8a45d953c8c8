use Rattle.std.proofs.Common.{◌≡◌, ◌++◌, map, drop}
use Rattle.kp_tree_grammar.specs.View.{term_view, domain_view, problem_view}
use Rattle.kp_names_semantics.specs.Numbering.{object_number}
use Rattle.kp_names_declared.proofs.items.objects.Given as goal

abbrev pub invariant-loop-term : goal.invariant-loop-term
invariant-loop-term l = l.row ++ map (object_number (domain_view l.names.domain) (problem_view l.names.problem)) (map term_view (drop l.term-index l.terms)) ≡ map (object_number (domain_view l.names.domain) (problem_view l.names.problem)) (map term_view l.terms)
