-- The laws of kp_run_inputs that proofs of other crates may cite. Each stands in the module that its line names.

-- ---- Whether there are more bytes than may be.
pub use Rattle.kp_run_inputs.proofs.Lengths.{over_length as read_over_length, short_length as read_within_length}
-- ---- The table of a source is right, and its merges are valid; in some modes it is complete.
pub use Rattle.kp_run_inputs.proofs.Right.{tables_right as tables_are_right, tables_complete as some_tables_are_complete}
-- ---- A source has one table, or one refusal.
pub use Rattle.kp_run_inputs.proofs.OneTable.{one_table as sources_have_one_table}
-- ---- A plan file names one list of actions, or has one refusal.
pub use Rattle.kp_run_inputs.proofs.OnePlan.{one_plan as plans_have_one_list}
-- ---- What is answered, from what the code finds.
pub use Rattle.kp_run_inputs.proofs.Ended.{found_below as found_numbers_are_actions, as_many_numbers as as_many_found_as_steps}
-- ---- What a command comes to that goes on with a table, with its task, or with the actions of a plan: one outcome, and some.
pub use Rattle.kp_run_inputs.proofs.Commands.{by_table_once as by_table_one_outcome, by_table_some as by_table_some_outcome, by_task_once as by_task_one_outcome, by_task_some as by_task_some_outcome, by_task_so as by_task_also, by_plan_once as by_plan_one_outcome, by_plan_some as by_plan_some_outcome}
-- ---- The pairs of relevance that a problem with its relevance keeps.
pub use Rattle.kp_run_inputs.proofs.Relevances.{pairs_of as related_pairs}
-- ---- How a command goes on, or ends early, from what the code finds.
pub use Rattle.kp_run_inputs.proofs.Going.{later_goes as prepared_goes_on, early_ends as prepared_ends, tabled_goes, tabled_ends, task_goes, task_ends, plan_goes, plan_ends}
-- ---- The table of a source is one for the trees.
pub use Rattle.kp_run_inputs.proofs.TablesFor.{targets_are as table_targets_are_of_atoms, target_within as target_is_of_atoms, few_merges as table_has_few_merges, table_for as table_of_source_is_for_trees}
-- ---- The actions that the steps of a plan name.
pub use Rattle.kp_run_inputs.proofs.Named.{named_actions as found_actions_are_named, all_found as named_are_all_found, found_at as named_is_found_at}
-- ---- The empty tag alone is the table of no merges, and its task is within the limits. Where no effect has a condition, it covers each target, and is the table of each mode.
pub use Rattle.kp_run_inputs.proofs.EmptyTags.{HaveNoConditions, table_of_none, empty_tag_made, empty_tag_made_in_modes, nothing_uncovered, empty_tags_fit}
