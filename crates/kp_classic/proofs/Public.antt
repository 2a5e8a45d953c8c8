-- The laws of kp_classic that proofs of other crates may cite. Each stands in the module that its line names.

-- ---- The task of a ground problem does what the ground problem does.
pub use Rattle.kp_classic.proofs.OfGround.{succeeds_same as task_succeeds_the_same, task_fits as task_of_ground_fits, task_does_the_same}
-- ---- The order of states, by the first fact in which they differ.
pub use Rattle.kp_classic.proofs.Ordered.{never_before_itself as state_never_before_itself}
-- ---- States as rows of truth values.
pub use Rattle.kp_classic.proofs.States.{those_alike as facts_of_agreeing_tests}
-- ---- Steps and runs from tests that agree on the facts of a task.
pub use Rattle.kp_classic.proofs.Stepping.{agree_those, meets_alike, applicable_alike, next_alike, succeeds_alike, success_is_a_run}
-- two tests agree on the first n facts
pub use Rattle.kp_classic.proofs.Stepping.{Agree as AgreeOnFacts}
-- ---- examples that others go on from
pub use Rattle.kp_classic.proofs.ExampleTask.{nameless as nameless_action, swap as swap_action, small as swap_ground, start_of_small as swap_start, one_state as swap_start_is_one_state}
