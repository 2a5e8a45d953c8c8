use Rattle.std.proofs.Common.{◌≡◌, ◌++◌, map, drop}
use Rattle.kp_tree_grammar.specs.View.{schema_view as schema_tree_view, domain_view, problem_view}
use Rattle.kp_names_semantics.specs.Numbering.{numbered_schema}
use Rattle.kp_names_numbered.specs.View.{schema_view}
use Rattle.kp_names_numbered.proofs.effects.schemas.Given as goal

abbrev pub invariant-loop-tree : goal.invariant-loop-tree
invariant-loop-tree l = record {
  kept : l.ranges.names ≡ l.fn.ranges.names;
  so_far : map schema_view l.row ++ map (numbered_schema (domain_view l.fn.ranges.names.domain) (problem_view l.fn.ranges.names.problem)) (map schema_tree_view (drop l.tree-index l.trees)) ≡ map (numbered_schema (domain_view l.fn.ranges.names.domain) (problem_view l.fn.ranges.names.problem)) (map schema_tree_view l.trees);
}
