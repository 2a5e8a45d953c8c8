-- The laws of kp_init that proofs of other crates may cite. Each stands in the module that its line names.

-- ---- The models of the initial formula are the initial states.
pub use Rattle.kp_init.proofs.Models.{initial_exact as models_are_initial_states}
-- ---- Plans, and runs of actions from each model.
pub use Rattle.kp_init.proofs.Runs.{initial_is_over as initial_formula_is_over_ground_atoms, named_runs_are_plans, plan_of_texts}
