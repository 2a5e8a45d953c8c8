-- The laws of kp_names_declared that proofs of other crates may cite. Each stands in the module that its line names.

-- ---- Names that are gathered one by one: which there are, and where they stand.
pub use Rattle.kp_names_declared.proofs.Gathering.{gathers as gathered_behind, among_with as among_one_more, among_gathered, among_all, gathered_member, member_gathered}
-- ---- Names under types: each is that of a line with the type, and a line puts its name under each of its types.
pub use Rattle.kp_names_declared.proofs.NamesUnderTypes.{put_by, puts_it}
