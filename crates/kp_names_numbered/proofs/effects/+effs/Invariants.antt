use Rattle.std.proofs.Common.{◌≡◌, ◌++◌, map, drop}
use Rattle.kp_tree_grammar.specs.View.{eff_view as tree_view, domain_view, problem_view}
use Rattle.kp_names_semantics.specs.Numbering.{numbered_eff}
use Rattle.kp_names_numbered.specs.View.{eff_view}
use Rattle.kp_names_numbered.proofs.effects.+effs.Given as goal

abbrev pub invariant-effects-trees : goal.invariant-effects-trees
invariant-effects-trees l = record {
  kept : l.ranges.names ≡ l.fn.ranges.names;
  back : l.scope ≡ l.fn.scope;
  so_far : map eff_view l.row ++ map (numbered_eff (domain_view l.fn.ranges.names.domain) (problem_view l.fn.ranges.names.problem) l.fn.scope) (map tree_view (drop l.tree-index l.trees)) ≡ map (numbered_eff (domain_view l.fn.ranges.names.domain) (problem_view l.fn.ranges.names.problem) l.fn.scope) (map tree_view l.trees);
}
