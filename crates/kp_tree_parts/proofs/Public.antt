-- The laws of kp_tree_parts that proofs of other crates may cite. Each stands in the module that its line names.

-- ---- Reading any number of one form, as a loop does.
pub use Rattle.kp_tree_parts.proofs.Loops.{all_of as all_parts_of, goes_on as loop_goes_on, ends as loop_ends, is_done as loop_is_done, run_of as run_parts_of, run_goes_on as run_loop_goes_on, run_ends as run_loop_ends, run_done as run_loop_done, run_lacks as run_loop_lacks}
-- what was read before, and what is still read
pub use Rattle.kp_tree_parts.proofs.Loops.{with_front}
