-- The laws of kp_tags_files that proofs of other crates may cite. Each stands in the module that its line names.

-- ---- A file has one list of merges or one refusal, and one of them always.
pub use Rattle.kp_tags_files.proofs.OneAnswer.{read_once as merges_read_once, refused_once as merges_refuse_once, never_two as merges_never_both, always_some as merges_always_one}
