-- The laws of kp_ground_joins that proofs of other crates may cite. Each stands in the module that its line names.

-- ---- Partial bindings.
pub use Rattle.kp_ground_joins.proofs.Joined.{partial_go_on as partial_bindings_go_on, kept_joined as kept_bindings_are_joined}
