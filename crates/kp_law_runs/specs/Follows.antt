-- What follows from how a run ends, said side by side.
use Rattle.std.specs.Prelude.{◌≡◌, ◌≢◌, ◌⊎◌, List, [], ◌∷◌, ◌++◌, ℕ, Option, Some, None, Vec, map}
use Rattle.std.specs.FinMap.{get}
use Rattle.std.specs.declared.alloc.Global.{Global}
use Rattle.kp_base.specs.Lists.{Member}
use Rattle.kp_outside.specs.Outside.{FileMap, Rises, AddsFront, with_bytes}
use Rattle.kp_run_outcome.specs.declared.outcome.FilePut.{FilePut}
use Rattle.kp_run_outcome.specs.declared.outcome.Outcome.{Outcome}
use Rattle.kp_run_outcome.specs.declared.status.Status.{Status}
use Rattle.kp_run_outcome.specs.declared.status.Status.TheVariants as status
use Rattle.kp_run_outcome.specs.Ends.{Outside, NoGetFailed, NoPutFailed, NoWriteFailed, IsUntouched, IsAnswer, with_files, StopsAt, CarriesOut}
use Rattle.kp_words.specs.Command.{IsCommand, IsNoCommand, inputs_of, outputs_of}
use Rattle.kp_words.specs.Asked.{Asked}
use Rattle.kp_run.specs.Contents.{Contents}
use Rattle.kp_run.specs.Outcomes.{ComesTo, IsDue}
use Rattle.kp_run.specs.Ends.{Ends}

-- what is said of every run that ends so
abbrev pub OfRuns : (List (Vec ℕ Global) → Outside → Outside → Status → Type 0) → Type 0
OfRuns P = (words : List (Vec ℕ Global)) (old new : Outside) (s : Status) → Ends words old new s → P words old new s

-- ---- answers

-- all of an outcome was carried out: the status is its own, its files were put, its text was printed
pub record IsAnsweredBy (o : Outcome) (old new : Outside) (s : Status) : Type 0 where
  pub status_is : s ≡ o.status
  pub puts_are : new.held ≡ with_files old.held o.puts
  pub text_is : new.told ≡ with_bytes old.told o.text

-- so it was with an outcome that is due
pub record IsWhole (words : List (Vec ℕ Global)) (old new : Outside) (s : Status) : Type 0 where
  pub outcome : Outcome
  pub due : IsDue words old.held outcome
  pub answered : IsAnsweredBy outcome old new s

-- an answer comes with the whole of its outcome
abbrev pub AnswersAreWhole : Type 0
AnswersAreWhole = OfRuns (λ words old new s. IsAnswer s → IsWhole words old new s)

-- a run that came to nothing: a read failed, or memory ran out
pub record CameToNothing (old new : Outside) (s : Status) : Type 0 where
  pub untouched : IsUntouched old new
  pub stopped : (s ≡ status.ReadFault) ⊎ (s ≡ status.Memory)

-- where it is told what is held, the outcome that is due is carried out, or the run came to nothing
abbrev pub TheDueIsCarriedOut : Type 0
TheDueIsCarriedOut = OfRuns (λ words old new s. (m : FileMap) (o : Outcome) → old.held ≡ Some m → IsDue words old.held o → CarriesOut o old new s ⊎ CameToNothing old new s)

-- no count of faults rises
pub record NothingRises (old new : Outside) : Type 0 where
  pub gets : (name : List ℕ) → Rises (old.get_faults name) (new.get_faults name) → ⊥
  pub puts : (name : List ℕ) → Rises (old.put_faults name) (new.put_faults name) → ⊥
  pub writes : Rises old.write_faults new.write_faults → ⊥

-- where no count of faults rises, the outcome that is due is the answer, or memory ran out
abbrev pub TheDueIsTheAnswer : Type 0
TheDueIsTheAnswer = OfRuns (λ words old new s. (m : FileMap) (o : Outcome) → old.held ≡ Some m → IsDue words old.held o → NothingRises old new → IsAnsweredBy o old new s ⊎ (s ≡ status.Memory))

-- a run that ends with an outcome, as far as it came: the outcome is carried out, or the run came to nothing; and where no count of faults rises, it is the answer, or memory ran out
pub record EndsWith (o : Outcome) (old new : Outside) (s : Status) : Type 0 where
  pub carried_out : CarriesOut o old new s ⊎ CameToNothing old new s
  pub answered : NothingRises old new → IsAnsweredBy o old new s ⊎ (s ≡ status.Memory)

-- an outcome with another status than Done puts nothing
abbrev pub OnlyDonePuts : Type 0
OnlyDonePuts = (words : List (Vec ℕ Global)) (held : Option FileMap) (o : Outcome) → IsDue words held o → o.status ≢ status.Done → o.puts ≡ []

-- of a command, an outcome with the status Done puts a file under each output name, in order
abbrev pub DonePutsTheOutputs : Type 0
DonePutsTheOutputs = (c : Asked) (t : Contents) (o : Outcome) → ComesTo c t o → o.status ≡ status.Done → map (λ f. f.name) o.puts ≡ outputs_of c

-- ---- what is held, and what was told

-- with another status than Done, WriteFault and want of memory, nothing is put
abbrev pub OthersPutNothing : Type 0
OthersPutNothing = OfRuns (λ words old new s. s ≢ status.Done → s ≢ status.WriteFault → s ≢ status.Memory → new.held ≡ old.held)

-- where the words are no command, nothing is put
abbrev pub NoCommandPutsNothing : Type 0
NoCommandPutsNothing = OfRuns (λ words old new s. IsNoCommand words → new.held ≡ old.held)

-- nothing is put; or the files of a due outcome are put up to one whose put stopped, with WriteFault one whose count rose; or all are put, with WriteFault where a write failed
pub data PutsSome (words : List (Vec ℕ Global)) (old new : Outside) (s : Status) : Type 0 where
  none_put : new.held ≡ old.held → PutsSome words old new s
  some_put : (o : Outcome) (file : FilePut) → IsDue words old.held o → StopsAt o.puts old.held new.held file → (s ≡ status.WriteFault → Rises (old.put_faults file.name) (new.put_faults file.name)) → PutsSome words old new s
  all_put : (o : Outcome) → IsDue words old.held o → new.held ≡ with_files old.held o.puts → (s ≡ status.WriteFault → Rises old.write_faults new.write_faults) → PutsSome words old new s

-- what is put is of an outcome that is due
abbrev pub PutsAreOfTheDue : Type 0
PutsAreOfTheDue = OfRuns (λ words old new s. PutsSome words old new s)

-- nothing was told; or some first bytes of the text of a due outcome, with WriteFault where a write failed
pub data TellsSome (words : List (Vec ℕ Global)) (old new : Outside) (s : Status) : Type 0 where
  none_told : new.told ≡ old.told → TellsSome words old new s
  some_told : (o : Outcome) → IsDue words old.held o → AddsFront old.told new.told o.text → (s ≡ status.WriteFault → Rises old.write_faults new.write_faults) → TellsSome words old new s

-- what is told without an answer is a front of the text of an outcome that is due
abbrev pub TextsAreOfTheDue : Type 0
TextsAreOfTheDue = OfRuns (λ words old new s. (IsAnswer s → ⊥) → TellsSome words old new s)

-- with ReadFault nothing was told
abbrev pub ReadFaultsTellNothing : Type 0
ReadFaultsTellNothing = OfRuns (λ words old new s. s ≡ status.ReadFault → new.told ≡ old.told)

-- ---- faults

-- ReadFault only where a get of an input of the command failed
abbrev pub ReadFaultsAreTrue : Type 0
ReadFaultsAreTrue = OfRuns (λ words old new s. s ≡ status.ReadFault → (c : Asked) × IsCommand words c × ((name : List ℕ) × Member (inputs_of c) name × Rises (old.get_faults name) (new.get_faults name)))

-- WriteFault only where a put of an output of the command failed, or a write
abbrev pub WriteFaultsAreTrue : Type 0
WriteFaultsAreTrue = OfRuns (λ words old new s. s ≡ status.WriteFault → ((c : Asked) × IsCommand words c × ((name : List ℕ) × Member (outputs_of c) name × Rises (old.put_faults name) (new.put_faults name))) ⊎ Rises old.write_faults new.write_faults)

-- where a get failed, ReadFault is told
abbrev pub FailedGetsAreTold : Type 0
FailedGetsAreTold = OfRuns (λ words old new s. s ≢ status.ReadFault → NoGetFailed old new)

-- where a put or a write failed, WriteFault is told
abbrev pub FailedWritesAreTold : Type 0
FailedWritesAreTold = OfRuns (λ words old new s. s ≢ status.WriteFault → NoPutFailed old new × NoWriteFailed old new)

-- an input that isn't held gives ReadFault or want of memory
abbrev pub MissingInputsAreFaults : Type 0
MissingInputsAreFaults = OfRuns (λ words old new s. (m : FileMap) (c : Asked) (name : List ℕ) → old.held ≡ Some m → IsCommand words c → Member (inputs_of c) name → get m name ≡ None → (s ≡ status.ReadFault) ⊎ (s ≡ status.Memory))

-- inputs are read in order: with ReadFault, a get failed of the first that isn't held, or of one before it
abbrev pub InputsAreReadInOrder : Type 0
InputsAreReadInOrder = OfRuns (λ words old new s. (m : FileMap) (c : Asked) (front rest : List (List ℕ)) (name : List ℕ) → old.held ≡ Some m → IsCommand words c → inputs_of c ≡ front ++ name ∷ rest → get m name ≡ None → s ≡ status.ReadFault
    → (q : List ℕ) × Member (front ++ name ∷ []) q × Rises (old.get_faults q) (new.get_faults q))
