-- The laws of kp_clauses that proofs of other crates may cite. Each stands in the module that its line names.

-- ---- Clauses within clauses: members, tautologies, and one literal more.
pub use Rattle.kp_clauses.proofs.Within.{within_member, within_from, within_trans, within_self, subsumed_within, true_within as true_where_within, tautology_from, tautology_within, tautology_true, proper_more as one_more_is_no_tautology, has_new as has_the_one_more}
-- ---- What is in a resolvent.
pub use Rattle.kp_clauses.proofs.Resolving.{resolved_true, resolved_within, within_resolved, within_left as within_one_more_and_less, left_within as within_what_is_left, resolved_ascending}
-- ---- What clauses have beside another one tells of its resolvents.
pub use Rattle.kp_clauses.proofs.Resting.{no_rests as none_are_rests}
-- where a rest is within a clause, a stored one is within the resolvent
pub use Rattle.kp_clauses.proofs.Resting.{rests_tell as rests_tell_of_resolvents}
-- ---- What a store holds after clauses were added.
pub use Rattle.kp_clauses.proofs.Storing.{with_all_member, with_all_old, with_all_new, apart_last as one_more_apart, joined_apart as two_lists_apart, with_all_joined, with_all_apart, apart_same as stored_within_is_itself}
-- the clauses that hold none of the new ones, and then the new ones, are those with all added in turn
pub use Rattle.kp_clauses.proofs.Storing.{merged_is as merged_is_with_all}
-- ---- Literals that may all be false are made false by a state in which each clause is true.
-- one literal of each atom may join the clauses
pub use Rattle.kp_clauses.proofs.Extending.{MayJoin}
-- literals that may all be false are made false by a state in which the clauses are true
pub use Rattle.kp_clauses.proofs.Extending.{fails as state_makes_them_false}
