-- The laws of kp_run_solve that proofs of other crates may cite. Each stands in the module that its line names.

-- ---- What a ground problem is solved to goes by the models of its initial formula.
pub use Rattle.kp_run_solve.proofs.ByModels.{told_by as solved_is_told_by_models, ground_by as ground_is_solved_by_models}
-- ---- A ground problem with a table is solved to one outcome, and so is a classical task, and each search of which one outcome is told.
pub use Rattle.kp_run_solve.proofs.OneSolving.{searches_once as searches_have_one_outcome, ground_once as solvings_have_one_outcome, classical_once as classical_solvings_have_one_outcome}
-- ---- The operators of the task of a ground problem and a table are steps of the tagged machine.
pub use Rattle.kp_run_solve.proofs.Operators.{there as step_of_operator_is_there, numbers_back as operator_numbers_back, actions_are as actions_among_steps, are_named as operator_names_are_steps, steps_named, acts_named as actions_among_have_names, have_names as operators_have_names}
-- ---- The operators of a task that succeed are the steps that the machine accepts.
pub use Rattle.kp_run_solve.proofs.Plans.{named_accepted as named_plans_are_accepted, none_accepted as no_plan_is_accepted}
-- ---- What is found is told.
pub use Rattle.kp_run_solve.proofs.Told.{found_told as search_is_told}
-- ---- What the end of a search says of its task is true.
pub use Rattle.kp_run_solve.proofs.Searches.{ends_true as ends_are_true}
-- ---- The task of two trees and a table within the limits is fit to be searched.
pub use Rattle.kp_run_solve.proofs.Fitting.{task_fits as task_of_trees_fits}
-- ---- A plan of the written files, with the plan of the given texts that it strips to.
pub use Rattle.kp_run_solve.proofs.BothPlans.{both_plans}
-- ---- The lines that are printed of a plan read as its steps.
pub use Rattle.kp_run_solve.proofs.PlanLines.{actions_read as action_lines_read, steps_read as machine_lines_read}
