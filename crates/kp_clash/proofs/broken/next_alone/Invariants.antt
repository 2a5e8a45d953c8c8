use Rattle.std.proofs.Common.{◌≡◌, ◌<◌, ◌≤◌, ◌/◌, ℕ, false}
use Rattle.kp_clash_exclusive.specs.Paired.{is_pair}
use Rattle.kp_clash_exclusive.specs.Removed.{breaks}
use Rattle.kp_clash.proofs.broken.next_alone.Given as goal

-- none of the atoms of the words so far
abbrev pub invariant-loop-k : goal.invariant-loop-k
invariant-loop-k l = (q : ℕ) → l.fn.from ≤ q → q / 64 < l.k → breaks (is_pair l.pairs) l.action l.effect q ≡ false
