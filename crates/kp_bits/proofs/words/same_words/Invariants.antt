use Rattle.std.proofs.Common.{◌≡◌, ◌<◌, ℕ, slice_index_or}
use Rattle.std.specs.Int.{bit_at}
use Rattle.kp_bits.proofs.words.same_words.Given as goal

-- the words before place k are the same as the others
abbrev pub invariant-loop-k : goal.invariant-loop-k
invariant-loop-k l = (i j : ℕ) → i < l.k → j < 64 → bit_at (slice_index_or l.words i 0) j ≡ bit_at (slice_index_or l.others i 0) j
