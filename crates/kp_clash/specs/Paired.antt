-- Pairs of atoms as a list.
pub use Rattle.kp_clash_exclusive.specs.Paired.{are_both, is_pair, all_below}
