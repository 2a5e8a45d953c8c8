-- The laws of kp_law_decidable that proofs of other crates may cite. Each stands in the module that its line names.

-- ---- Names at fault, and the size of a problem.
pub use Rattle.kp_law_decidable.proofs.Sizes.{names_decided, sizes_decided}
-- ---- The clauses of an initial formula are in order, and those whose prime implicates pass a limit are found.
pub use Rattle.kp_law_decidable.proofs.Counting.{formulas_ascend as formulas_are_ascending, counted as implicates_are_counted}
-- ---- A tag is consistent with a formula over finitely many atoms, or not; so the formula has a model, or none.
pub use Rattle.kp_law_decidable.proofs.Modelled.{model_or_none}
-- ---- Some clash is the first, or no action clashes.
pub use Rattle.kp_law_decidable.proofs.Clashing.{clash_or_none}
-- ---- A ground problem has pairs of relevance.
pub use Rattle.kp_law_decidable.proofs.Relevant.{relevance_decided}
-- ---- Merges have a table, or are refused.
pub use Rattle.kp_law_decidable.proofs.Tabling.{tables_decided}
-- ---- Steps are a plan, or fail first from some model, and somewhere.
pub use Rattle.kp_law_decidable.proofs.Judging.{verdicts_decided}
-- ---- Each step of a plan is found, or some is the first that isn't.
pub use Rattle.kp_law_decidable.proofs.Finding.{steps_decided}
-- ---- What is answered on merges, on a plan and on its steps is one.
pub use Rattle.kp_law_decidable.proofs.Once.{tables_once as table_refusal_once, table_or_refused, accepts_once as accepted_table_is_one, verdict_once, unknown_once as first_unknown_once, known_or_unknown as all_found_or_first_unknown}
-- ---- Some list of clauses is that of a target.
pub use Rattle.kp_law_decidable.proofs.Candidates.{clauses_decided}
-- ---- Some list of literals is that of the targets.
pub use Rattle.kp_law_decidable.proofs.Needed.{targets_decided}
-- ---- Which tags are consistent, what they entail, which tags clauses have, and whether tags meet clauses, is decided.
pub use Rattle.kp_law_decidable.proofs.Tags.{tags_decided}
-- ---- Whether tags cover a target is decided, so which targets a table leaves uncovered.
pub use Rattle.kp_law_decidable.proofs.Covered.{coverages_decided, complete_with_none}
-- ---- Each mode has a table, or a refusal.
pub use Rattle.kp_law_decidable.proofs.Made.{made_decided}
-- ---- Each proper problem has an answer on its width, and each of its targets has a width.
pub use Rattle.kp_law_decidable.proofs.Widths.{known as proper_is_known, widths_decided, targets_have_widths}
