-- The laws of kp_primes that proofs of other crates may cite. Each stands in the module that its line names.

-- ---- Two lists of the prime implicates are equally long.
-- of a limit no formula says both: that there are more, and that there are no more
pub use Rattle.kp_primes.proofs.Lengths.{not_more_and_at_most}
-- ---- The closure of a consistent tag: what is always true, its literals, and what it leaves of clauses near it.
pub use Rattle.kp_primes.proofs.Closing.{always_is}
-- ---- What the answer of a build says of the initial formula.
pub use Rattle.kp_primes.proofs.Answered.{never_over as counted_is_never_over, is_empty as empty_clause_is_no_state, prefix_stops as prefix_stops_the_build}
-- ---- The clauses of a build that succeeds.
pub use Rattle.kp_primes.proofs.Found.{is_found as build_is_found}
-- what a build that succeeds owes
pub use Rattle.kp_primes.proofs.Found.{IsFound}
-- ---- Whole lists of prime implicates answer the questions of tags exactly.
pub use Rattle.kp_primes.proofs.Questions.{consistent_free, consistent_exact, entails_exact}
