-- The laws of kp_run_prepare that proofs of other crates may cite. Each stands in the module that its line names.

-- ---- What a file is read as.
-- bytes of which there are no more are the whole content
pub use Rattle.kp_run_prepare.proofs.Reading.{whole as whole_content_is_read}
-- ---- A ground problem within the limits has few actions, and few effects of each.
pub use Rattle.kp_run_prepare.proofs.Counted.{few_actions as ground_has_few_actions, is_of_atoms as usual_ground_is_of_its_atoms}
-- ---- Two texts have one pair of trees, or one refusal.
pub use Rattle.kp_run_prepare.proofs.OneText.{same_domain as texts_have_one_domain, same_problem as texts_have_one_problem, refused_once as texts_refused_once, refused_or_read as texts_refused_or_read}
-- ---- Two texts come to one refusal before a command does its own work, or the command goes on with one pair of trees.
pub use Rattle.kp_run_prepare.proofs.OneStart.{ground_once as ground_refused_once, ground_or_within as ground_refused_or_within, comes_once as comes_to_one_outcome, prepared_above as prepared_under_a_greater_limit}
-- where a command goes on with two trees, it goes on with these
pub use Rattle.kp_run_prepare.proofs.OneStart.{comes_later as goes_on_with_these}
-- ---- The problem of two texts that have trees, and the numbers of its actions.
pub use Rattle.kp_run_prepare.proofs.Problems.{problem_of as problem_of_trees, numbers_once as numbers_of_names_once}
