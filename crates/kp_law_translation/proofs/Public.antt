-- The laws of kp_law_translation that proofs of other crates may cite. Each stands in the module that its line names.

-- ---- Initial states and models of the initial formula, for all trees; and what is known at the start is the one closure of the empty tag in order.
pub use Rattle.kp_law_translation.proofs.Starts.{states_are_models as initial_states_are_models, formula_over_atoms as formula_by_number_is_over_atoms, formulas_over_atoms as formulas_speak_of_ground_atoms}
-- ---- Where two texts have a problem, its ground problem can be written: its names are Names in lower case and differ, and its literals are of its atoms.
pub use Rattle.kp_law_translation.proofs.Written.{grounds_written}
-- ---- Tables for the ground problem of two texts.
pub use Rattle.kp_law_translation.proofs.Tables.{tables_written as tables_can_be_written, empty_tag_is_table as empty_tag_is_table_for_trees}
-- ---- With the empty tag alone a task weighs at most twice what the instances do.
pub use Rattle.kp_law_translation.proofs.Sizes.{actions_light, empty_tags_light as empty_tags_are_light}
-- ---- The literals of a ground problem are of its atoms.
pub use Rattle.kp_law_translation.proofs.OfAtoms.{by_number as ground_is_of_its_atoms}
-- ---- The plans of what is written for two trees, or two texts, and a table strip to plans of these.
pub use Rattle.kp_law_translation.proofs.Trees.{translations_sound as translations_are_sound}
-- ---- Actions that are there have lifted lists with steps by name: where the machine accepts them these are a plan of what is written, and with a complete table each plan of the texts has one.
pub use Rattle.kp_law_translation.proofs.Lifting.{lift_named as lifted_steps_have_names, lifts_written, plans_lift}
-- numbers below the number of actions are those of actions
pub use Rattle.kp_law_translation.proofs.Lifting.{there as numbers_below_are_actions}
