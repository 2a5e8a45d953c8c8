-- The laws of kp_search that proofs of other crates may cite. Each stands in the module that its line names.

-- ---- Searches by the estimate `added`.
pub use Rattle.kp_search.proofs.ByAdded.{one_end_by_added as has_one_end_by_added, some_end_by_added as has_some_end_by_added}
-- ---- What the end of a search says of the task.
pub use Rattle.kp_search.proofs.Ends.{tells as ends_tell}
