-- The laws of kp_primes_first_model that proofs of other crates may cite. Each stands in the module that its line names.

-- ---- Truth values that are known or open, of what is made of others.
pub use Rattle.kp_primes_first_model.proofs.Truths.{opposite_is as truth_of_not, both_is as truth_of_and, either_is as truth_of_or, all_is as truth_of_all, any_is as truth_of_any, truth_in_is as truth_of_literal}
-- ---- What reads the first n atoms alone.
pub use Rattle.kp_primes_first_model.proofs.Reading.{all_same as literals_read_first_atoms, model_same as models_read_first_atoms}
-- ---- There is at most one first state, and it goes by what passes.
pub use Rattle.kp_primes_first_model.proofs.Unique.{first_once as first_state_once}
-- the first state goes by what passes alone
pub use Rattle.kp_primes_first_model.proofs.Unique.{first_by_passing}
