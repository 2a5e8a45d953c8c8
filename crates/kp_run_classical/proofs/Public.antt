-- The laws of kp_run_classical that proofs of other crates may cite. Each stands in the module that its line names.

-- ---- A ground problem within the limits speaks of its atoms alone, so its task is fit to be searched.
pub use Rattle.kp_run_classical.proofs.Counted.{task_fits as classical_task_fits}
-- ---- Operators succeed exactly where their actions' names are a plan.
pub use Rattle.kp_run_classical.proofs.Plans.{have_names as classical_successes_have_names, are_plans as classical_successes_are_plans, are_successes as classical_plans_are_successes}
-- ---- Two texts come to one refusal as a classical task, or the command goes on with one pair of trees.
pub use Rattle.kp_run_classical.proofs.OneStart.{comes_once as classical_comes_to_one_outcome}
