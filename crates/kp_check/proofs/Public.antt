-- The laws of kp_check that proofs of other crates may cite. Each stands in the module that its line names.

-- ---- Ground problems of the first n atoms, and the values after one of their steps.
pub use Rattle.kp_check.proofs.Grounded.{ground_of as is_ground_of, action_parts as action_is_of_first_atoms}
-- a ground problem of the first n atoms
pub use Rattle.kp_check.proofs.Grounded.{IsGroundOf}
-- ---- Where steps fail from a state whose atoms are all known.
pub use Rattle.kp_check.proofs.FailingFrom.{all_succeed as failing_from_none_is_plan}
-- ---- Steps that fail somewhere don't succeed, and they fail in one place.
pub use Rattle.kp_check.proofs.Once.{failing_once as steps_fail_in_one_place}
