-- The laws of kp_plans that proofs of other crates may cite. Each stands in the module that its line names.

-- ---- The lines of a plan read back as its steps.
pub use Rattle.kp_plans.proofs.Lines.{name_hits as name_word_is_hit, name_is as name_word_is_name, printed_plans_read}
-- ---- From the steps of tokens to those of files: one list of steps, or one refusal.
pub use Rattle.kp_plans.proofs.WholePlans.{read_once as plans_read_once, refused_once as plans_refuse_once, never_two as plans_never_both, always_some as plans_always_one}
