-- The laws of kp_run that proofs of other crates may cite. Each stands in the module that its line names.

-- ---- What a map of files has under a name, once something was put there or elsewhere.
-- what was put under a name is got under it
pub use Rattle.kp_run.proofs.Soundness.{at_last as got_after_insert}
-- and under another name what was got before
pub use Rattle.kp_run.proofs.Soundness.{under_another as got_beside_insert}
-- ---- What a run that ended with Done put is sound.
pub use Rattle.kp_run.proofs.Soundness.{sound_end as done_is_sound}
-- ---- What is due is an answer, and no fault.
pub use Rattle.kp_run.proofs.Answered.{outcomes_are_answers}
-- ---- What it is that a command comes to.
pub use Rattle.kp_run.proofs.Comes.{due_by, due_makes}
-- ---- What files hold, as a list of one.
pub use Rattle.kp_run.proofs.Reading.{content_held, held_alone, named_held as named_merges_held}
-- ---- The last printed line is `complete` just where no target is uncovered.
pub use Rattle.kp_run.proofs.CompleteText.{none_uncovered as complete_text_leaves_none, complete_told as complete_is_told}
-- ---- Where a translation told `complete`, each plan of its files is the strip of a plan of what it put.
pub use Rattle.kp_run.proofs.Completeness.{solvable as translations_stay_solvable}
-- ---- A run that ends with an answer carried out the whole of an outcome that is due.
pub use Rattle.kp_run.proofs.Whole.{IsNoRefusal, not_refused}
-- the status is that of the outcome, its files were put, and its text was printed
pub use Rattle.kp_run.proofs.Whole.{IsCarriedOut}
-- a run that ends with an answer carried out an outcome that is due
pub use Rattle.kp_run.proofs.Whole.{did as answer_is_carried_out}
-- ---- What an answer to `solve` says of its files.
pub use Rattle.kp_run.proofs.Solved.{proper as prepared_is_proper, complete_text as no_plan_text_tells_complete, solve_true as solve_is_true}
-- ---- What an answer to `classical` says of its files.
pub use Rattle.kp_run.proofs.SolvedClassical.{classical_true as classical_is_true}
