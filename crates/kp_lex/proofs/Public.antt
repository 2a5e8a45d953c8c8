-- The laws of kp_lex that proofs of other crates may cite. Each stands in the module that its line names.

-- ---- Cutting from left to right finds the cutting, and the bad byte where there is none.
pub use Rattle.kp_lex.proofs.Exact.{front_is as token_is_front, longest as token_is_longest, cut_tells}
-- the cutting, or the bad byte
pub use Rattle.kp_lex.proofs.Exact.{Tells as TellsCutting}
-- ---- The spans of a cutting.
pub use Rattle.kp_lex.proofs.Spans.{in_text as spans_in_order, at_most as no_more_tokens_than_bytes, each_token as each_span_is_a_token}
-- ---- Each text has one outcome: its cutting, or its bad byte.
pub use Rattle.kp_lex.proofs.Outcomes.{some as cutting_or_bad_byte, never_both as never_cutting_and_bad_byte, one_cutting, one_bad_byte}
