use Rattle.std.proofs.Common.{◌≡◌, ◌<◌, ◌≤◌, ◌/◌, ℕ, false}
use Rattle.kp_clash_exclusive.specs.Paired.{is_pair}
use Rattle.kp_clash_exclusive.specs.Removed.{breaks}
use Rattle.kp_clash.proofs.broken.first_in_word.Given as goal

-- none of the atoms so far
abbrev pub invariant-loop-q : goal.invariant-loop-q
invariant-loop-q l = (i : ℕ) → i / 64 ≡ l.k → l.fn.from ≤ i → i < l.q → breaks (is_pair l.pairs) l.action l.effect i ≡ false
