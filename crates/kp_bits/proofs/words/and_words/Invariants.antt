use Rattle.std.proofs.Common.{◌≡◌, ◌<◌, ◌≤◌, ℕ, length, slice_index_or}
use Rattle.std.specs.Int.RustNames.{bit_and}
use Rattle.kp_bits.proofs.words.and_words.Given as goal

-- the words before place k are done, and those from it on are as they were
abbrev pub invariant-loop-k : goal.invariant-loop-k
invariant-loop-k l =
    (length l.words ≡ length l.initial.words)
    × ((j : ℕ) → j < l.k → slice_index_or l.words j 0 ≡ bit_and (slice_index_or l.initial.words j 0) (slice_index_or l.others j 0))
    × ((j : ℕ) → l.k ≤ j → slice_index_or l.words j 0 ≡ slice_index_or l.initial.words j 0)
