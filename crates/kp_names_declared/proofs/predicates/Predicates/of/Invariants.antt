use Rattle.std.proofs.Common.{◌≡◌, ◌≤◌, [], map, drop, fold}
use Rattle.kp_tree_grammar.specs.View.{pred_view}
use Rattle.kp_names_declared.specs.NameTables.{entries_from, with_entry}
use Rattle.kp_names_declared.proofs.predicates.Predicates.of.Given as goal

-- with the declarations that are left come all
abbrev pub invariant-loop-predicate : goal.invariant-loop-predicate
invariant-loop-predicate l = record {
  so_far : fold with_entry l.predicates (entries_from l.number (map pred_view (drop l.predicate-index l.declarations))) ≡ fold with_entry [] (entries_from 0 (map pred_view l.declarations));
  counted : l.number ≡ l.predicate-index;
  few : l.predicate-index ≤ 4294967295;
}
