-- The laws of kp_tags_modes that proofs of other crates may cite. Each stands in the module that its line names.

-- ---- What is said of merges goes by the models alone.
pub use Rattle.kp_tags_modes.proofs.ByModels.{back as same_models_back, candidate as candidate_by_models, clauses as clauses_for_by_models, refused_by as mode_refusal_by_models, merges_by as merges_by_models}
-- ---- The atoms of clauses, gathered one by one.
pub use Rattle.kp_tags_modes.proofs.Gathered.{numbers as atoms_of_clauses, atoms_are as atoms_of_clauses_are}
-- ---- The merges of a mode are valid, of consistent tags, and of the atoms.
pub use Rattle.kp_tags_modes.proofs.Good.{merges_good as merges_of_modes_are_good}
-- ---- The merges of some modes cover each target.
pub use Rattle.kp_tags_modes.proofs.Covering.{each_covered as some_modes_cover_each}
-- ---- A mode has one answer.
pub use Rattle.kp_tags_modes.proofs.OneAnswer.{one_answer as modes_have_one_answer}
