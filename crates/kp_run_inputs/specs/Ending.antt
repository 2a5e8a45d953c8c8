-- What a command comes to that ends early. Beside proofs it serves the contracts that cite `Settles`.
use Rattle.std.specs.Prelude.{◌≡◌, Result, Ok, Err}
use Rattle.kp_base.specs.declared.memory.Memory.{Memory}
use Rattle.kp_run_outcome.specs.declared.outcome.Outcome.{Outcome}
use Rattle.kp_run_prepare.specs.declared.prepared.Early.{Early}
use Rattle.kp_run_prepare.specs.declared.prepared.Early.TheVariants as halts

-- what ended it is what it comes to
abbrev pub Settles : Early → Result Outcome Memory → Type 0
Settles (halts.With o) result = result ≡ Ok o
Settles halts.Memory (Ok o) = ⊥
Settles halts.Memory (Err m) = Unit {0}
