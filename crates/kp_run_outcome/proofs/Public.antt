-- The laws of kp_run_outcome that proofs of other crates may cite. Each stands in the module that its line names.

-- ---- What is read of a content is no longer than was asked for.
pub use Rattle.kp_run_outcome.proofs.Fronts.{front_within as front_is_within}
-- ---- An outcome that was carried out from a moment was so from an earlier one since which nothing happened.
-- an outcome that was carried out from a moment was so from an earlier one since which nothing happened
pub use Rattle.kp_run_outcome.proofs.Earlier.{carried_from as carried_out_from_earlier}
