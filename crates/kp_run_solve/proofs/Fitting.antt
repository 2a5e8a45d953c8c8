-- The task of two trees and a table within the limits is fit to be searched.
use Rattle.std.proofs.Common.{arith}
use Rattle.kp_base.specs.declared.ground.TagTable.{TagTable}
use Rattle.kp_tree_grammar.specs.declared.tree.Word.{Word}
use Rattle.kp_tree_grammar.specs.Trees.{Domain, Problem}
use Rattle.kp_names_semantics.specs.Numbering.{numbered_problem}
use Rattle.kp_classic.specs.Fits.{IsFit}
use Rattle.kp_law_ktask.specs.Task.{task_of}
use Rattle.kp_law_ktask.specs.Writable.{IsWritableTask}
use Rattle.kp_law_ktask.proofs.Public.{tagged_tasks_are_fit}
use Rattle.kp_ktask.specs.Translated.{FitsLimits}
use Rattle.kp_run_prepare.specs.Prepared.{usual, IsSmall}
use Rattle.kp_run_prepare.proofs.Public.{ground_has_few_actions}
use Rattle.kp_run_inputs.proofs.Public.{table_has_few_merges}
use Rattle.kp_law_translation.specs.OfTrees.{ground_of}
use Rattle.kp_lift.proofs.Public.{operators_are_counted}

pub task_fits : (d : Domain Word) (p : Problem Word) (table : TagTable) → IsSmall d p → FitsLimits (task_of (ground_of d p) table) usual → IsWritableTask (ground_of d p) table → IsFit (task_of (ground_of d p) table)
task_fits d p table small fits writable =
    let facts = fits.facts in
    let ops = operators_are_counted (ground_of d p) table in
    let merges = table_has_few_merges (ground_of d p) table fits in
    let actions = ground_has_few_actions (numbered_problem d p) small.counts in
    tagged_tasks_are_fit (ground_of d p) table writable (omega (arith, facts)) (omega (arith, ops, merges, actions))
