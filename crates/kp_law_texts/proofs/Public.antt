-- The laws of kp_law_texts that proofs of other crates may cite. Each stands in the module that its line names.

-- ---- Application, written without brackets round what stands last.
pub use Rattle.kp_law_texts.proofs.Applied.{◌$◌}
-- ---- Fine pieces are cut into their words.
pub use Rattle.kp_law_texts.proofs.Cuts.{pieces_are_cut}
-- ---- A form reads whatever its words are: another word for each word, and it reads and stops the same.
pub use Rattle.kp_law_texts.proofs.Natural.{places_dont_matter as reading_goes_by_symbols}
-- ---- Pieces that are put in front of fine ones leave them fine.
pub use Rattle.kp_law_texts.proofs.Fine.{named as spelled_name_is_token, said as name_in_front_is_fine, told as keyword_in_front_is_fine, fine_each as each_keeps_fine, ends_names as names_before_a_bracket_end, fine_names as names_before_a_bracket_are_fine}
-- what is put in front of fine pieces leaves them fine
pub use Rattle.kp_law_texts.proofs.Fine.{Keeps as KeepsFine}
-- ---- Pieces that are written one after the other.
pub use Rattle.kp_law_texts.proofs.Putting.{one_more as one_more_put, wrote as wrote_in_front, each-append}
-- what was written, and what those that are to come put, are what all put
pub use Rattle.kp_law_texts.proofs.Putting.{Leaves as LeavesToPut}
-- ---- Pieces that read as parts read as their list.
pub use Rattle.kp_law_texts.proofs.Reading.{many_reads as many_pieces_read}
-- pieces are put whose words read as this
pub use Rattle.kp_law_texts.proofs.Reading.{Gives as PiecesGive}
-- ---- What the words of fine pieces read as, their text reads as.
pub use Rattle.kp_law_texts.proofs.Texts.{pieces_read as pieces_read_as_their_words}
