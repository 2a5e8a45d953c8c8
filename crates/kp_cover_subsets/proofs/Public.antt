-- The laws of kp_cover_subsets that proofs of other crates may cite. Each stands in the module that its line names.

-- ---- Subsets are sublists; what the first that passes says of the others.
pub use Rattle.kp_cover_subsets.proofs.Sublists.{subsets_are, first_none, first_some, subset_member, sublist_itself}
