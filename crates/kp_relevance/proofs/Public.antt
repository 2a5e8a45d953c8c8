-- The laws of kp_relevance that proofs of other crates may cite. Each stands in the module that its line names.

-- ---- Closing marks, one number after another. By it `kp_law_decidable` has that there is a list of pairs; the code closes row by
pub use Rattle.kp_relevance.proofs.Closing.{closes_none, closes_more}
-- ---- What is marked in the end is what is relevant.
-- the rows that are made are those of the ground problem's pairs
pub use Rattle.kp_relevance.proofs.Exact.{rows_tell as rows_tell_relevance}
-- ---- A list of clauses in order, each once, is told by its members.
pub use Rattle.kp_relevance.proofs.Ordered.{one_clauses_for}
-- ---- The clauses that are gathered are the candidate clauses that are relevant to the target.
pub use Rattle.kp_relevance.proofs.Clauses.{clauses_are as candidates_in_order_are_clauses_for}
