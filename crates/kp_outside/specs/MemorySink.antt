-- A sink in memory, as its callers see it.
use Rattle.std.specs.Prelude.{ℕ, List, []}

-- the bytes written so far, how many calls there were, which calls fail, and how many failed
pub record Written : Type 0 where
  pub bytes : List ℕ
  pub calls : ℕ
  pub failing : List ℕ
  pub faults : ℕ

-- nothing is written, and no call fails
abbrev pub new_sink : Written
new_sink = record { bytes = []; calls = 0; failing = []; faults = 0 }
