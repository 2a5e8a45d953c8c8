-- The laws of kp_law_ktask that proofs of other crates may cite. Each stands in the module that its line names.

-- ---- The steps strip to the names of their actions.
pub use Rattle.kp_law_ktask.proofs.Strips.{steps_strip as tagged_steps_strip}
-- ---- The name of a merge's operator can be written, and tells its number.
pub use Rattle.kp_law_ktask.proofs.MergeNames.{merge_is_name}
-- ---- The number of a fact.
pub use Rattle.kp_law_ktask.proofs.Numbers.{facts_length as facts_are_counted}
-- ---- The task by number, read by name, is the task by name; so it can be written.
pub use Rattle.kp_law_ktask.proofs.Named.{tasks_are_fit as tagged_tasks_are_fit}
-- ---- The weight of a task is known before its operators are made.
pub use Rattle.kp_law_ktask.proofs.Weights.{weight_counted as weight_is_counted, both_alike as both_effects_weigh_alike}
-- ---- The plans of the two texts are the lists that the machine accepts.
pub use Rattle.kp_law_ktask.proofs.Plans.{plans_are_accepted as tagged_plans_are_accepted, plans_sound as tagged_plans_are_sound}
-- ---- The runs of the operators are the lists that the machine accepts.
pub use Rattle.kp_law_ktask.proofs.Runs.{named_step as machine_step_is_named}
-- ---- The operators by number do the steps of the machine.
pub use Rattle.kp_law_ktask.proofs.ByNumber.{operators_do_steps as operators_do_machine_steps}
-- ---- examples that others go on from
pub use Rattle.kp_law_ktask.proofs.ExampleCells.{steps as cells_steps, a_plan as cells_have_a_plan}
