-- The laws of kp_words that proofs of other crates may cite. Each stands in the module that its line names.

-- ---- Words are one command at most.
pub use Rattle.kp_words.proofs.OneCommand.{one_command as words_are_one_command}
-- ---- Words are a command, or none.
pub use Rattle.kp_words.proofs.Decided.{words_decided}
-- ---- The size of a generated problem is in its range, and the written files of a translation have different names.
pub use Rattle.kp_words.proofs.Calls.{bench_is_sized, outputs_differ as translate_outputs_differ}
-- ---- The names under which files are read.
pub use Rattle.kp_words.proofs.Fitting.{input_names, reads_are_inputs}
-- ---- The file of merges that tags come from.
pub use Rattle.kp_words.proofs.Lookups.{file_is as file_of_merges_is}
-- ---- examples that others go on from, and what they are shown by
pub use Rattle.kp_words.proofs.Saying.{call_by_words, files_by_computing, usual_source, usual_numbers, nothing_generated}
pub use Rattle.kp_words.proofs.Words.{two_apart as example_two_apart}
pub use Rattle.kp_words.proofs.Examples.{word as word_of_bytes, no_words as no_words_are_no_command, is_classical as example_is_classical, is_width as example_is_width}
