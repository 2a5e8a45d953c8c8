-- A law on commands and their outcomes.
use Rattle.std.specs.Prelude.{ℕ, List, Option, Vec}
use Rattle.std.specs.declared.alloc.Global.{Global}
use Rattle.kp_outside.specs.Outside.{FileMap}
use Rattle.kp_run_outcome.specs.declared.outcome.Outcome.{Outcome}
use Rattle.kp_run_outcome.specs.Ends.{IsAnswer}
use Rattle.kp_run.specs.Outcomes.{IsDue}

-- an outcome that is due is an answer, and no fault
abbrev pub OutcomesAreAnswers : Type 0
OutcomesAreAnswers = (words : List (Vec ℕ Global)) (held : Option FileMap) (o : Outcome) → IsDue words held o → IsAnswer o.status
