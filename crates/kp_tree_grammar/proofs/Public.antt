-- The laws of kp_tree_grammar that proofs of other crates may cite. Each stands in the module that its line names.

-- ---- What reading answers is so, once for all forms.
pub use Rattle.kp_tree_grammar.proofs.Tells.{shrinks as reading_shrinks, read_tells as reading_tells}
-- it reads so, or it stops there, or a bracket there opens a level too many
pub use Rattle.kp_tree_grammar.proofs.Tells.{Tells as TellsReading}
-- ---- With enough levels reading answers what the definitions say. So a form reads in one way, or stops at one token.
pub use Rattle.kp_tree_grammar.proofs.Exact.{go_reads as answered_is_read, many_step as many_unfolds, run_step as run_unfolds, fewer as rest_is_no_longer, closed_lacks as open_bracket_stops, first_hits as other_front_stops, no_token as other_token_stops, no_bracket as no_bracket_stops, clash as read_is_no_stop, reads_or_stops, reads_once, once_read as a_form_reads_once, once_stopped as a_form_stops_once, never_both as form_never_both, always_one as form_reads_or_stops}
-- ---- What stops, stops within what is read.
pub use Rattle.kp_tree_grammar.proofs.Within.{stops_within}
-- ---- A whole file has one tree or one offending token, and one of them always.
pub use Rattle.kp_tree_grammar.proofs.Wholes.{whole_read_once as whole_reads_once, whole_never_both, whole_stopped_once as whole_stops_once, whole_always_one as whole_reads_or_stops}
-- ---- What is behind the tokens that a form reads, or behind the one at which it stops, doesn't matter.
pub use Rattle.kp_tree_grammar.proofs.Onward.{deep_within, GoesOn, goes_on}
-- ---- Texts that are shown to read or to stop by computing.
pub use Rattle.kp_tree_grammar.proofs.Computed.{tokens as tokens_of_text, reads_as as reads_by_computing, stops as stops_by_computing}
-- what is read of a text's tokens with brackets of at most eight levels
pub use Rattle.kp_tree_grammar.proofs.Computed.{outcome as computed_outcome}
-- ---- What holds of every symbol that a Name may have. A token is of its own kind, and of no other.
pub use Rattle.kp_tree_grammar.proofs.KindTests.{name_passes, own_kind as own_kind_passes, other_kind as other_kind_fails}
-- ---- What may be a head is a name.
pub use Rattle.kp_tree_grammar.proofs.Words.{head_is_name as heads_are_names}
-- ---- The brackets of tokens as the cutting counts them and as the grammar does.
pub use Rattle.kp_tree_grammar.proofs.Nesting.{Kept, kept}
-- ---- What holds of each part of each section of a file holds of each part of its tree.
pub use Rattle.kp_tree_grammar.proofs.SectionWalk.{OfSection, of_sections, OfGiven, of_givens}
-- ---- What each form of the grammar gives: trees whose names are names.
pub use Rattle.kp_tree_grammar.proofs.NamedTrees.{domains_named, problems_named}
-- ---- examples that others go on from
pub use Rattle.kp_tree_grammar.proofs.ExampleTexts.{word_at as example_word_at, atom_at as example_atom_at, pred_at as example_pred_at, exchange as exchange_text, exchange_tree, from_p_to_q as from_p_to_q_text, from_p_to_q_tree}
