-- The laws of kp_cover that proofs of other crates may cite. Each stands in the module that its line names.

-- ---- Whether a state that satisfies what is known is inside some tags.
pub use Rattle.kp_cover.proofs.Inside.{all_inside as none_outside_is_valid}
-- ---- The tags of clauses: one for each model, with a literal of each clause, and the same under formulas with the same models.
pub use Rattle.kp_cover.proofs.Taking.{either_true as either_value_is_true, candidate_true as candidates_are_true, tags_valid as tags_of_clauses_are_valid, tags_consistent as tags_of_clauses_are_consistent, tag_has as tags_have_a_literal_of_each, tags_meet as tags_of_clauses_meet_them, one_cov as cov_once}
-- ---- Whether targets are covered is decided by the closures of tags and by which merges are valid.
pub use Rattle.kp_cover.proofs.Deciding.{own_atom as either_value_is_of_atom, target_below as target_is_below, targets_below as targets_are_below}
-- ---- A table has one answer on its coverage; relevant clauses are of the atoms; what the empty tag meets.
pub use Rattle.kp_cover.proofs.Answered.{one_uncovered as uncovered_once, none_uncovered as none_uncovered_if_complete, relevant_below as relevant_clauses_are_of_atoms}
