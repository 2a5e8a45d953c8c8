-- The laws of kp_clash_exclusive that proofs of other crates may cite. Each stands in the module that its line names.

-- ---- A pair of an inductive set stays in each greater set, and a set in which every pair stays is inductive.
pub use Rattle.kp_clash_exclusive.proofs.Greatest.{parts_of as stays_in_parts, stays_by as stays_by_parts, settled_inductive, settled_exclusive}
-- ---- The list of the pairs that are marked in a table has just these pairs.
pub use Rattle.kp_clash_exclusive.proofs.Marked.{in_all as two_below_are_among_all, marked_in as marked_are_two_below}
-- a row has its bits, and less than one word more
pub use Rattle.kp_clash_exclusive.proofs.Marked.{width as row_width}
-- ---- Removing pairs that don't stay takes none that an inductive set has.
pub use Rattle.kp_clash_exclusive.proofs.Removing.{pair_turned, fewer_different as part_pairs_different_atoms, shrinks_on as shrinks_further, shrinks_wider as shrinks_under_more_actions, removes as broken_pair_may_go, breaks_broken_pair, breaks_broken, adds_broken, none_stays as unbroken_pairs_stay}
-- no pair of an inductive set is broken
pub use Rattle.kp_clash_exclusive.proofs.Removing.{inductive_kept}
-- ---- What a clause marks.
pub use Rattle.kp_clash_exclusive.proofs.Starting.{in_both as literal_of_a_denied_pair}
-- ---- When literals are compatible with one more atom, and so when an effect breaks a pair.
pub use Rattle.kp_clash_exclusive.proofs.Firing.{incompatible_with_more, breaks_none as no_effect_breaks, breaks_paired, breaks_unpaired}
-- ---- Words of atoms that are added, and of atoms that are surely deleted.
pub use Rattle.kp_clash_exclusive.proofs.Noted.{delete_breaks_none as delete_breaks_no_pair, alone_breaks_none as unpaired_add_breaks_no_pair}
-- ---- Effects that may be compatible with one.
pub use Rattle.kp_clash_exclusive.proofs.Joining.{joins_none as excluded_effect_adds_no_pair}
