-- The laws of kp_law_tagged_machine that proofs of other crates may cite. Each stands in the module that its line names.

-- ---- The facts of a state go on as the state does.
pub use Rattle.kp_law_tagged_machine.proofs.Exact.{persists_exact as persists_where_none_fires_against}
-- ---- More facts before an action give no fewer after it.
pub use Rattle.kp_law_tagged_machine.proofs.Monotone.{facts_more, facts_more_all}
-- a relation between literals that has the links of an action's effects
pub use Rattle.kp_law_tagged_machine.proofs.Monotone.{Links as HasLinksOf}
-- the facts that bear on a literal are among some others
pub use Rattle.kp_law_tagged_machine.proofs.Monotone.{Within as IsWithinFor}
-- ---- What is known under a tag is true in each run from a model that makes the tag true.
pub use Rattle.kp_law_tagged_machine.proofs.Sound.{sound as accepted_lists_are_plans}
-- ---- For examples: where no effect of an action deletes what one of its effects adds, no step fires an add together with its delete.
pub use Rattle.kp_law_tagged_machine.proofs.OneSided.{never_clashes as one_sided_actions_never_clash}
-- ---- The exclusive pairs are one set, which the initial states determine; where no action clashes under it, nothing clashes.
pub use Rattle.kp_law_tagged_machine.proofs.Exclusive.{never_clashes as no_clash_under_exclusive_pairs, clash_or_free as no_clash_where_free}
-- a clash that is first under some exclusive pairs is so under all others
pub use Rattle.kp_law_tagged_machine.proofs.Exclusive.{under_one as first_clash_under_any_exclusive}
-- ---- Formulas with the same models say the same.
pub use Rattle.kp_law_tagged_machine.proofs.Formulas.{same_models as same_models_say_the_same}
-- ---- The operators do what the tagged machine does.
pub use Rattle.kp_law_tagged_machine.proofs.Operators.{operators_are_exact}
-- ---- The table of the empty tag alone.
pub use Rattle.kp_law_tagged_machine.proofs.OneTag.{is_table as one_tag_is_a_table}
-- ---- examples that others go on from
pub use Rattle.kp_law_tagged_machine.proofs.ExampleCells.{effect as cells_effect, left as cells_left, cells as cells_ground, one_of_three as one_cell_is_full, first as first_cell_full, second as second_cell_full, third as third_cell_full, table as cells_table, two_and_merge as cells_accepted, valid as cells_merges_are_valid, right as cells_table_is_right, below_all as literals_below, never as cells_never_clash}
pub use Rattle.kp_law_tagged_machine.proofs.ExamplePlain.{free as swap_is_clash_free}
-- ---- A lifted list strips to what was lifted, and is accepted where any list is that strips to the same.
pub use Rattle.kp_law_tagged_machine.proofs.Lifted.{lists_strip as lifted_lists_strip, lifted_accepted as lifted_is_accepted_where_it_lifts, lists_best as lifted_lists_are_best}
-- the merges stand in the table from this number on
pub use Rattle.kp_law_tagged_machine.proofs.Lifted.{Stand_at as StandFrom, all_stand as merges_stand_from_zero}
-- what is known after the merges and one action
pub use Rattle.kp_law_tagged_machine.proofs.Lifted.{known_after}
-- from this knowledge on the actions lift
pub use Rattle.kp_law_tagged_machine.proofs.Lifted.{lifts_from}
-- ---- Actions lift, or fail in one place with one literal.
pub use Rattle.kp_law_tagged_machine.proofs.Failing.{lift_or_fail as lists_lift_or_fail, dont_lift as failing_lists_dont_lift, fail_once as lists_fail_once}
-- ---- Relevance has the links of each action, and keeps to the atoms of the problem.
pub use Rattle.kp_law_tagged_machine.proofs.Relevance.{relevant_of_atoms as relevant_is_of_the_atoms}
-- ---- With a complete table each plan lifts.
pub use Rattle.kp_law_tagged_machine.proofs.Complete.{none_lost as no_plan_is_lost}
