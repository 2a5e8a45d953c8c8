use Rattle.std.proofs.Common.{◌≡◌, ◌<◌, ◌/◌, ℕ, true}
use Rattle.kp_clash_exclusive.specs.Paired.{is_pair}
use Rattle.kp_bits.specs.Packed.{bit_in}
use Rattle.kp_clash_exclusive.proofs.added.meets.Given as goal

-- none in the words so far
abbrev pub invariant-loop-k : goal.invariant-loop-k
invariant-loop-k l = (q : ℕ) → q / 64 < l.k → is_pair l.pairs l.atom.0 q ≡ true → bit_in l.added q ≡ 0
