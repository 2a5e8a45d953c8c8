-- The laws of kp_tags that proofs of other crates may cite. Each stands in the module that its line names.

-- ---- Merges have one table.
pub use Rattle.kp_tags.proofs.Unique.{one_table as accepted_table_once}
-- ---- The table of merges none of which is at fault is right, and its merges are valid.
pub use Rattle.kp_tags.proofs.Right.{right as accepted_tables_are_right}
-- ---- Formulas with the same models have the same answers on merges.
pub use Rattle.kp_tags.proofs.ByModels.{by_models as tables_go_by_models}
-- ---- Which table a mode has, and which targets a table leaves uncovered, goes by the models alone.
pub use Rattle.kp_tags.proofs.ModesByModels.{coverage_by_models as coverage_goes_by_models, made_by_models as made_tables_go_by_models}
-- ---- The merges of a mode have no fault, and their table is the only one.
pub use Rattle.kp_tags.proofs.Made.{made_right as made_tables_are_right, made_once as made_table_once, made as table_or_refusal_of_mode}
-- ---- The tables of some modes are complete.
pub use Rattle.kp_tags.proofs.Complete.{made_complete as made_tables_are_complete}
