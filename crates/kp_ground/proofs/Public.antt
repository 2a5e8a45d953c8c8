-- The laws of kp_ground that proofs of other crates may cite. Each stands in the module that its line names.

-- ---- Kept instances have schemas, and their actions are the actions of the ground problem.
pub use Rattle.kp_ground.proofs.Kept.{actions_at as actions_of_schemas_in_order}
