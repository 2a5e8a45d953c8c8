-- How a command ends: what is held and was told afterwards, and which counts of faults rose.
use Rattle.std.specs.Prelude.{◌≡◌, ◌≢◌, List, [], ◌∷◌, ◌++◌, ℕ, Option, Some, None, map, length, Result, Err, IsErrOf}
use Rattle.std.specs.FinMap.{get}
use Rattle.kp_outside.specs.declared.outside.Shelf.{Ghosts as Shelf}
use Rattle.kp_outside.specs.declared.outside.Sink.{Ghosts as Sink}
use Rattle.kp_outside.specs.declared.outside.OutsideStop.{OutsideStop}
use Rattle.kp_outside.specs.declared.outside.OutsideStop.TheVariants as stops
use Rattle.kp_outside.specs.Outside.{FileMap, Rises, AddsFront, with_file, without_file, with_bytes}
use Rattle.kp_run_outcome.specs.declared.outcome.FilePut.{FilePut}
use Rattle.kp_run_outcome.specs.declared.outcome.Outcome.{Outcome}
use Rattle.kp_run_outcome.specs.declared.status.Status.{Status}
use Rattle.kp_run_outcome.specs.declared.status.Status.TheVariants as status

-- the outside at a moment: what is held and what was told (`None` where a shelf or a sink doesn't tell), and the counts of failed gets and puts of each name and of failed writes
pub record Outside : Type 0 where
  pub held : Option FileMap
  pub told : Option (List ℕ)
  pub get_faults : List ℕ → ℕ
  pub put_faults : List ℕ → ℕ
  pub write_faults : ℕ

-- what a shelf and a sink tell of themselves
abbrev pub outside : {S O : Type 0} → Shelf S → Sink O → S → O → Outside
outside s o shelf out = record { held = s.contents shelf; told = o.told out; get_faults = s.get_faults shelf; put_faults = s.put_faults shelf; write_faults = o.faults out }

-- what is said of a run that ends so, said of a shelf and a sink before it and after
abbrev pub over : {S O : Type 0} → Shelf S → Sink O → S → S → O → O → (Outside → Outside → Status → Type 0) → Status → Type 0
over s o shelf_old shelf_new out_old out_new says status = says (outside s o shelf_old out_old) (outside s o shelf_new out_new) status

-- ---- which counts stand still

-- no count of failed gets changes
abbrev pub NoGetFailed : Outside → Outside → Type 0
NoGetFailed old new = (name : List ℕ) → new.get_faults name ≡ old.get_faults name

-- no count of failed puts changes
abbrev pub NoPutFailed : Outside → Outside → Type 0
NoPutFailed old new = (name : List ℕ) → new.put_faults name ≡ old.put_faults name

-- the count of failed writes doesn't change
abbrev pub NoWriteFailed : Outside → Outside → Type 0
NoWriteFailed old new = new.write_faults ≡ old.write_faults

-- no count of faults changes
pub record NothingFailed (old new : Outside) : Type 0 where
  pub gets : NoGetFailed old new
  pub puts : NoPutFailed old new
  pub writes : NoWriteFailed old new

-- what is held and what was told are as before
pub record IsUntouched (old new : Outside) : Type 0 where
  pub held : new.held ≡ old.held
  pub told : new.told ≡ old.told

-- ---- an outcome

-- what is held once these files are put, in order
abbrev pub with_files : Option FileMap → List FilePut → Option FileMap
with_files held [] = held
with_files held (f ∷ fs) = with_files (with_file held f.name f.content) fs

-- the puts stopped at a file: those before it are put, its own name is open, and all others are as before
pub record StopsAt (puts : List FilePut) (old new : Option FileMap) (file : FilePut) : Type 0 where
  pub front : List FilePut
  pub rest : List FilePut
  pub in_order : puts ≡ front ++ file ∷ rest
  pub others : without_file new file.name ≡ without_file (with_files old front) file.name

-- an outcome was carried out as far as the command came: wholly; up to a put that failed or found no memory; or up to the printing that did, where there is something to print
pub data CarriesOut (o : Outcome) (old new : Outside) (s : Status) : Type 0 where
  whole : s ≡ o.status → NothingFailed old new → new.held ≡ with_files old.held o.puts → new.told ≡ with_bytes old.told o.text → CarriesOut o old new s
  put_failed : (file : FilePut) → s ≡ status.WriteFault → StopsAt o.puts old.held new.held file → Rises (old.put_faults file.name) (new.put_faults file.name) → NoGetFailed old new → NoWriteFailed old new → new.told ≡ old.told → CarriesOut o old new s
  put_no_memory : (file : FilePut) → s ≡ status.Memory → StopsAt o.puts old.held new.held file → NothingFailed old new → new.told ≡ old.told → CarriesOut o old new s
  print_failed : s ≡ status.WriteFault → new.held ≡ with_files old.held o.puts → AddsFront old.told new.told o.text → Rises old.write_faults new.write_faults → NoGetFailed old new → NoPutFailed old new → o.text ≢ [] → CarriesOut o old new s
  print_no_memory : s ≡ status.Memory → new.held ≡ with_files old.held o.puts → AddsFront old.told new.told o.text → NothingFailed old new → o.text ≢ [] → CarriesOut o old new s

-- ---- the inputs

-- these are the contents of the names; where it isn't told what is held, there are as many
abbrev pub AreHeld : Option FileMap → List (List ℕ) → List (List ℕ) → Type 0
AreHeld None names texts = length texts ≡ length names
AreHeld (Some m) names texts = map (get m) names ≡ map Some texts

-- a get of one of the names failed, and those before it are held
pub record GetFails (names : List (List ℕ)) (held : Option FileMap) (old new : List ℕ → ℕ) : Type 0 where
  pub front : List (List ℕ)
  pub name : List ℕ
  pub rest : List (List ℕ)
  pub in_order : names ≡ front ++ name ∷ rest
  pub texts : List (List ℕ)
  pub are_held : AreHeld held front texts
  pub rises : Rises (old name) (new name)

-- ---- for contracts and laws alone

-- the status is an answer, and no fault
abbrev pub IsAnswer : Status → Type 0
IsAnswer status.ReadFault = ⊥
IsAnswer status.WriteFault = ⊥
IsAnswer status.Memory = ⊥
IsAnswer _ = Unit {0}

-- A call that only reads from a shelf: what is held stands, and so do the counts of failed puts. Where a get failed, it is told how; else the counts of failed gets stand, too.
pub record OnlyReads {S T : Type 0} (s : Shelf S) (old new : S) (fails : Option FileMap → (List ℕ → ℕ) → (List ℕ → ℕ) → Type 0) (result : Result T OutsideStop) : Type 0 where
  pub failed : IsErrOf result stops.Failed → fails (s.contents old) (s.get_faults old) (s.get_faults new)
  pub get_faults : result ≢ Err stops.Failed → (q : List ℕ) → s.get_faults new q ≡ s.get_faults old q
  pub contents : s.contents new ≡ s.contents old
  pub put_faults : (q : List ℕ) → s.put_faults new q ≡ s.put_faults old q

-- the status of a call that stopped, where a failure is this fault
abbrev pub stop_of : OutsideStop → Status → Status
stop_of stops.Failed fault = fault
stop_of stops.Memory fault = status.Memory
