use Rattle.std.proofs.Common.{◌≡◌, ◌++◌, map, drop}
use Rattle.kp_tree_grammar.specs.View.{typed_view, domain_view, problem_view}
use Rattle.kp_names_semantics.specs.Numbering.{numbered_range}
use Rattle.kp_names_numbered.proofs.ranges.Ranges.of_variables.Given as goal

abbrev pub invariant-loop-variable : goal.invariant-loop-variable
invariant-loop-variable l = record {
  kept : l.self.names ≡ l.fn.self.names;
  so_far : l.ranges ++ map (numbered_range (domain_view l.fn.self.names.domain) (problem_view l.fn.self.names.problem)) (map typed_view (drop l.variable-index l.variables)) ≡ map (numbered_range (domain_view l.fn.self.names.domain) (problem_view l.fn.self.names.problem)) (map typed_view l.variables);
}
