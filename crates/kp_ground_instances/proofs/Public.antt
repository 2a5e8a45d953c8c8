-- The laws of kp_ground_instances that proofs of other crates may cite. Each stands in the module that its line names.

-- ---- Conditions and effects of the program as plain data, form by form.
pub use Rattle.kp_ground_instances.proofs.Views.{cond_all as view_of_conjunction, eff_all as view_of_all, eff_when as view_of_when, eff_each as view_of_each}
-- ---- Lists of choices with one list more.
pub use Rattle.kp_ground_instances.proofs.Choices.{longer as with_each_at_its_end, choices_last}
-- ---- What is gathered up to a number.
pub use Rattle.kp_ground_instances.proofs.KeptRest.{still_all, too_many}
