-- How a run ends.
use Rattle.std.specs.Prelude.{◌≡◌, ℕ, List, Option, Vec}
use Rattle.std.specs.declared.alloc.Global.{Global}
use Rattle.kp_outside.specs.Outside.{FileMap}
use Rattle.kp_run_outcome.specs.declared.outcome.Outcome.{Outcome}
use Rattle.kp_run_outcome.specs.declared.status.Status.{Status}
use Rattle.kp_run_outcome.specs.declared.status.Status.TheVariants as status
use Rattle.kp_run_outcome.specs.Ends.{Outside, NoPutFailed, NoWriteFailed, NothingFailed, IsUntouched, CarriesOut, GetFails}
use Rattle.kp_words.specs.Command.{IsCommand, inputs_of}
use Rattle.kp_words.specs.Asked.{Asked}
use Rattle.kp_run.specs.Outcomes.{IsDue}

-- a get of an input failed, of the command that the words are
abbrev pub InputFails : List (Vec ℕ Global) → Option FileMap → (List ℕ → ℕ) → (List ℕ → ℕ) → Type 0
InputFails words held old new = (c : Asked) × IsCommand words c × GetFails (inputs_of c) held old new

-- A run ends with a status: the outcome that is due was carried out as far as the run came; or, before that, a get of one of the input names failed, or memory ran out.
pub data Ends (words : List (Vec ℕ Global)) (old new : Outside) (s : Status) : Type 0 where
  came : (o : Outcome) → IsDue words old.held o → CarriesOut o old new s → Ends words old new s
  read_failed : InputFails words old.held old.get_faults new.get_faults → s ≡ status.ReadFault → NoPutFailed old new → NoWriteFailed old new → IsUntouched old new → Ends words old new s
  no_memory : s ≡ status.Memory → NothingFailed old new → IsUntouched old new → Ends words old new s
