use Rattle.std.proofs.Common.{◌≡◌, ◌<◌, ◌/◌, ℕ, false}
use Rattle.kp_clash_exclusive.specs.Paired.{is_pair}
use Rattle.kp_clash_exclusive.proofs.lone.has_none.Given as goal

-- none in the words so far
abbrev pub invariant-loop-k : goal.invariant-loop-k
invariant-loop-k l = (q : ℕ) → q / 64 < l.k → is_pair l.pairs l.atom.0 q ≡ false
