-- The laws of kp_ktask that proofs of other crates may cite. Each stands in the module that its line names.

-- ---- Rows of facts and effects that are made tag by tag.
-- what comes from a tag on is what comes under it, and what comes from the next one on
pub use Rattle.kp_ktask.proofs.Rows.{one_tag as next_tag_first}
-- ---- A task is refused at one limit alone, or it is within both.
pub use Rattle.kp_ktask.proofs.Refusals.{task_once as task_refused_once, task_or_within as task_refused_or_within}
