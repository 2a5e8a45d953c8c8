-- The laws of kp_tree_cursor that proofs of other crates may cite. Each stands in the module that its line names.

-- ---- The text of each token is ASCII, and so is what is cut from the text in lower case.
pub use Rattle.kp_tree_cursor.proofs.Ascii.{all_lexed as lexed_as_seen}
-- ---- Tokens seen over their spans.
pub use Rattle.kp_tree_cursor.proofs.Seen.{kept_all as seen_all}
-- so far, one by one, and in the end all: what a loop over tokens has kept
pub use Rattle.kp_tree_cursor.proofs.Seen.{kept_next as seen_one_more}
-- ---- Any number of tokens of one kind, as the longest run of them.
pub use Rattle.kp_tree_cursor.proofs.Several.{never_bracket as class_is_no_bracket, run_reads as longest_run_reads, words_are as words_of_run}
