-- The laws of kp_write that proofs of other crates may cite. Each stands in the module that its line names.

-- ---- The plans of the two texts of a task are the lists of its operators that run and meet the goal.
pub use Rattle.kp_write.proofs.Runs.{plans_are_runs as plans_of_texts_are_runs}
-- ---- The names of facts and operators can be written, and tell what they are of.
pub use Rattle.kp_write.proofs.Encoded.{name_from as plain_is_name, joined as plain_joined, computed as plain_by_computing, digits as digits_are_plain, fact_is_head, operator_is_name, decodes as encoded_name_decodes, same_name-refl, facts_tell_apart, operators_apart}
-- ---- Pieces of a task by number that are written one after the other.
pub use Rattle.kp_write.proofs.Pieces.{op_puts as operator_puts, domain_is as domain_put_is_its_text}
-- ---- A task by number and the same by name: they are read alike, and have the same runs.
pub use Rattle.kp_write.proofs.Numbered.{names_are as operator_names_are, made_first as made_by_first_or_later, from_start as named_run_is_success}
-- ---- Literals of atoms, and their opposites.
pub use Rattle.kp_write.proofs.Grounds.{opposites_of as opposites_are_of_atoms}
