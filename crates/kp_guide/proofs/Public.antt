-- The laws of kp_guide that proofs of other crates may cite. Each stands in the module that its line names.

-- ---- Of each task and state there is one estimate: lowering costs ends.
pub use Rattle.kp_guide.proofs.Existing.{added_exists, added_one as added_is_one}
-- ---- A fact that operators reach is reached by a chain of rules.
pub use Rattle.kp_guide.proofs.Relaxed.{added_right as added_is_right}
