use Rattle.std.proofs.Common.{◌≡◌, ◌++◌, map, drop}
use Rattle.kp_tree_grammar.specs.View.{pred_view}
use Rattle.kp_names_semantics.specs.Numbering.{numbered_pred}
use Rattle.kp_names_numbered.proofs.numbering.predicates.Given as goal

abbrev pub invariant-loop-tree : goal.invariant-loop-tree
invariant-loop-tree l = l.row ++ map numbered_pred (map pred_view (drop l.tree-index l.trees)) ≡ map numbered_pred (map pred_view l.trees)
