-- The laws of kp_words_options that proofs of other crates may cite. Each stands in the module that its line names.

-- ---- Names such that `clap` tells the arguments apart: what computing shows of all of them, and what follows for each.
pub use Rattle.kp_words_options.proofs.Fitting.{computed as rules_are_loose_by_computing}
-- ---- Words say one thing at most, and what it is can be computed.
pub use Rattle.kp_words_options.proofs.Unique.{one_line as words_are_one_line, unsaid as words_that_say_nothing_are_no_line, said_twice as option_said_twice_is_no_line, said_line as line_has_what_is_said}
-- ---- Words are a line of options, or none: the test of their shape tells.
pub use Rattle.kp_words_options.proofs.LineDecided.{line_decided}
