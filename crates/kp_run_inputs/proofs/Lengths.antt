-- Whether there are more bytes than may be.
use Rattle.std.proofs.Common.{◌≡◌, ◌<◌, ◌≤◌, ℕ, List, length, Bool, true, false, nat_lt, arith}
use Rattle.std.proofs.lemmas.Bool.Decides.{nat_tests}
use Rattle.kp_base.specs.Files.{most_bytes}

-- more bytes than may be
pub over_length : (most : ℕ) (text : List ℕ) (more : Bool) → most ≡ most_bytes → more ≡ nat_lt most (length text) → more ≡ true → most_bytes < length text
over_length most text more m is true_ = grind (arith, nat_tests)

-- or no more
pub short_length : (most : ℕ) (text : List ℕ) (more : Bool) → most ≡ most_bytes → more ≡ nat_lt most (length text) → more ≡ false → length text ≤ most_bytes
short_length most text more m is none = grind (arith, nat_tests)
