-- The laws of kp_names_semantics that proofs of other crates may cite. Each stands in the module that its line names.

-- ---- When two names are one, and a name is among others.
pub use Rattle.kp_names_semantics.proofs.Lists.{same_names as same_name_equivalence, same-sym as same_name-sym, all_same-true as all_same_names-true, all_same-refl as all_same_names-refl, among_member as member_is_among}
-- ---- Numbers of names: where a name stands, and names that stand once.
pub use Rattle.kp_names_semantics.proofs.Indexes.{at_index as name_at_index, index_below, distinct_once as distinct_are_distinct}
-- no name stands twice
pub use Rattle.kp_names_semantics.proofs.Indexes.{Distinct as AreDistinctNames}
-- ---- Conditions and effects mean the same by number as by name.
pub use Rattle.kp_names_semantics.proofs.Numbered.{among_heads as head_is_declared, atom_terms as atom_terms_have_no_fault, terms_below as terms_are_objects, matches_more as matches_inside, bindings_numbered, object_list_good as object_list_fits}
-- ---- Literals, what `:init` states and the goal mean the same by number as by name.
pub use Rattle.kp_names_semantics.proofs.NumberedItems.{is_valid as is_valid_literal, valid as ground_is_valid, valid_parts as valid_literal_parts, no_variables as no_variables_match, atom_eq_named as atoms_equal_as_named, literal_valid as numbered_literal_is_valid, literals_valid as item_literals_are_valid}
-- ---- Steps, initial states and plans are the same by number as by name.
pub use Rattle.kp_names_semantics.proofs.NumberedPlans.{clean as clean_parts, indexes_below as indexes_are_objects, initial_numbered as initial_states_are_the_same_by_number, plan_numbered as plans_are_the_same_by_number, named_once as instances_are_named_once}
-- the parts of a problem without faults
pub use Rattle.kp_names_semantics.proofs.NumberedPlans.{Clean as HasCleanParts}
-- ---- The test of types decides the relation.
pub use Rattle.kp_names_semantics.proofs.Types.{type_test_exact as type_test_is_exact}
-- ---- What is encoded is decoded, and the other way round.
pub use Rattle.kp_names_semantics.proofs.Encoding.{plain_byte as plain_byte_stands_for_itself, encoded_once as names_are_encoded_once, encoded_decodes as what_was_encoded_decodes, decoded_is_encoding}
-- ---- Texts that are cut and read by computing, and that a text has one tree.
pub use Rattle.kp_names_semantics.proofs.Texts.{domain_of as domain_of_text, problem_of as problem_of_text}
-- texts that are cut and read without a fault have a problem
pub use Rattle.kp_names_semantics.proofs.Texts.{has_problem as computes_a_problem}
-- a plan of two texts solves the problem that they have
pub use Rattle.kp_names_semantics.proofs.Texts.{solves_theirs}
-- ---- Whether a tree has a fault doesn't depend on where its words stand.
pub use Rattle.kp_names_semantics.proofs.PlacesOfFaults.{places_mean_nothing}
-- ---- By the grammar no equality stands in a goal.
pub use Rattle.kp_names_semantics.proofs.PlainGoals.{goals_plain as goals_are_plain}
-- ---- examples that others go on from
pub use Rattle.kp_names_semantics.proofs.ExamplePlans.{moves as moves_domain, move as move_step, from_a_to_b as from_a_to_b_problem}
pub use Rattle.kp_names_semantics.proofs.ExampleCells.{cells as cells_domain, one_of_three as one_cell_problem}
pub use Rattle.kp_names_semantics.proofs.ExampleNumbered.{move_schema, moves_by_number, numbered_moves as moves_are_numbered, no_fault as moves_have_no_fault, plain as moves_goal_is_plain}
