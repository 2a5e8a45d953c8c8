-- The laws of kp_width that proofs of other crates may cite. Each stands in the module that its line names.

-- ---- Where the parts of the question are known, there is an answer.
pub use Rattle.kp_width.proofs.Answered.{answered as known_problems_are_answered}
-- ---- Each target has a width; that of a target over the bound is above it.
pub use Rattle.kp_width.proofs.Least.{every_target as every_target_has_a_width, over_wider as targets_over_are_wider}
-- ---- What is said of widths goes by the models alone.
pub use Rattle.kp_width.proofs.ByModels.{report_by as report_by_models, refusal_by as refusal_by_models}
-- ---- There is one answer on the width of a ground problem.
pub use Rattle.kp_width.proofs.OneAnswer.{one_width as problems_have_one_width}
-- ---- The clauses of a row are as many as the width of its target.
pub use Rattle.kp_width.proofs.Right.{rows_right as rows_have_the_width, more_than as covers_over_are_more_than_bound}
-- ---- The greatest of the rows is the width of the problem.
pub use Rattle.kp_width.proofs.Widest.{reports_right as reports_have_the_width}
