-- The laws of kp_clash that proofs of other crates may cite. Each stands in the module that its line names.

-- ---- The pairs that prime implicates deny are those that no initial state has together, and what is left of them in the end is the exclusive pairs.
pub use Rattle.kp_clash.proofs.Initially.{left_exclusive as settled_pairs_are_exclusive}
-- ---- The clash of the first action that has one is the first clash.
pub use Rattle.kp_clash.proofs.InOrder.{first_is as first_found_is_first_clash, none_is as none_found_is_no_clash}
-- ---- There is one first clash at most.
pub use Rattle.kp_clash.proofs.Once.{first_once as first_clash_once}
