-- The laws of kp_run_bench that proofs of other crates may cite. Each stands in the module that its line names.

-- ---- A run comes to one outcome.
pub use Rattle.kp_run_bench.proofs.OneBench.{actions_of as told_actions_are_those_among, benches_once as benches_have_one_outcome}
-- ---- What is told of what is found, from what the code makes.
pub use Rattle.kp_run_bench.proofs.Told.{plan_told as plan_is_told}
-- ---- The actions of operators that succeed work from each model.
pub use Rattle.kp_run_bench.proofs.Working.{work as succeeding_actions_are_plan}
