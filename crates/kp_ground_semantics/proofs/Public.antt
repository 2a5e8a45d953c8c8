-- The laws of kp_ground_semantics that proofs of other crates may cite. Each stands in the module that its line names.

-- ---- Atoms of static predicates keep the truth that `:init` gives them.
pub use Rattle.kp_ground_semantics.proofs.Static.{static_parts as static_predicate_parts, static_at_first as static_atoms_keep_their_truth}
-- ---- The ground atoms are those that occur, each once and in order.
pub use Rattle.kp_ground_semantics.proofs.Atoms.{atoms_are_numbered}
-- ---- On the ground atoms, an action does what its instance does.
pub use Rattle.kp_ground_semantics.proofs.Step.{same_literal-true, same_literal-refl, holds_numbered, same_numbered as literal_number_is_its_own, occurs as instance_literals_occur}
-- the literal's atom is in the list, at its number
pub use Rattle.kp_ground_semantics.proofs.Step.{Covered as IsCoveredLiteral}
-- ---- Kept instances, and their actions.
pub use Rattle.kp_ground_semantics.proofs.Kept.{kept_of as kept_instance, member_of as kept_is_member, act as instance_action, actions_are as actions_of_kept_instances}
-- ---- Plans by number, and runs of actions.
pub use Rattle.kp_ground_semantics.proofs.Plans.{runs_are_plans as ground_runs_are_plans, plan_exact as plan_is_ground_run}
-- ---- The names of actions.
pub use Rattle.kp_ground_semantics.proofs.Names.{named_by_steps as actions_named_by_steps, actions_named_once}
-- ---- examples that others go on from
pub use Rattle.kp_ground_semantics.proofs.ExampleMoves.{ground_moves}
pub use Rattle.kp_ground_semantics.proofs.ExampleGrounds.{lifted as numbered_texts, roads as roads_domain, three_towns as three_towns_problem}
