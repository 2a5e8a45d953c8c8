-- Outcomes that print a text and put nothing.
use Rattle.std.specs.Prelude.{List, [], ℕ}
use Rattle.kp_run_outcome.specs.declared.outcome.Outcome.{Outcome}
use Rattle.kp_run_outcome.specs.declared.status.Status.TheVariants as status

-- the text is printed
abbrev pub prints : List ℕ → Outcome
prints text = record { status = status.Done; puts = []; text = text }

-- the answer is no, and the text is printed
abbrev pub denies : List ℕ → Outcome
denies text = record { status = status.Negative; puts = []; text = text }
