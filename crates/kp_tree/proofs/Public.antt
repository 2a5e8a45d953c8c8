-- The laws of kp_tree that proofs of other crates may cite. Each stands in the module that its line names.

-- ---- A file has one tree or one refusal, and one of them always.
pub use Rattle.kp_tree.proofs.OneAnswer.{read_once as files_read_once, refused_one as files_refuse_once, never_two as files_never_both, always_some as files_always_one}
