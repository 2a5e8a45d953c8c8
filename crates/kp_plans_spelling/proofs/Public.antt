-- The laws of kp_plans_spelling that proofs of other crates may cite. Each stands in the module that its line names.

-- ---- What is put in front of a bracket is bracketed.
pub use Rattle.kp_plans_spelling.proofs.Bracketed.{literals_are_bracketed}
