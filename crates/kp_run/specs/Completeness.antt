-- What a lift is good for: where a translation told `complete`, it finds for each plan of the given files a plan of the written ones.
use Rattle.std.specs.Prelude.{◌≡◌, ◌⊎◌, ◌≤◌, ◌++◌, ℕ, List, Some, Vec, codes, length}
use Rattle.std.specs.FinMap.{get}
use Rattle.std.specs.declared.alloc.Global.{Global}
use Rattle.kp_base.specs.declared.limits.Mode.{Mode}
use Rattle.kp_names_semantics.specs.Steps.{Step}
use Rattle.kp_names_semantics.specs.Plans.{IsPlan}
use Rattle.kp_names_semantics.specs.Strip.{strip}
use Rattle.kp_plans.specs.declared.step.PlanStep.{PlanStep}
use Rattle.kp_plans.specs.PlanFiles.{step_names, IsPlanFile}
use Rattle.kp_plans.specs.Printed.{plan_text, IsTextOf}
use Rattle.kp_outside.specs.Outside.{FileMap, with_bytes}
use Rattle.kp_run_outcome.specs.declared.status.Status.{Status}
use Rattle.kp_run_outcome.specs.declared.status.Status.TheVariants as status
use Rattle.kp_base.specs.Files.{most_bytes}
use Rattle.kp_run_outcome.specs.Ends.{Outside}
use Rattle.kp_words.specs.Asked.{Source, of_mode, of_file, Asked, source_of}
use Rattle.kp_words.specs.Command.{IsCall}
use Rattle.kp_words.specs.declared.verb.Verb.TheVariants as verbs

-- the last line of the text is `complete`
pub record PrintsComplete (text : List ℕ) : Type 0 where
  pub front : List ℕ
  pub are : text ≡ front ++ codes "\ncomplete\n"

-- how a run of some words ends: from which outside to which, and with which status
abbrev pub Ending : Type 1
Ending = List (Vec ℕ Global) → Outside → Outside → Status → Type 0

-- a translation ran and ended with Done: the shelf tells what was held before and after it, the sink what was printed, and the last printed line is `complete`
pub record RanComplete (ends : Ending) (words : List (Vec ℕ Global)) (t : Asked) (before after : FileMap) : Type 0 where
  pub old : Outside
  pub new : Outside
  pub earlier : List ℕ
  pub text : List ℕ
  pub is_translate : IsCall verbs.Translate words t
  pub ended : ends words old new status.Done
  pub held_before : old.held ≡ Some before
  pub held_after : new.held ≡ Some after
  pub told_before : old.told ≡ Some earlier
  pub told_after : new.told ≡ Some (earlier ++ text)
  pub complete : PrintsComplete text

-- the same mode; or two files of merges with one text
pub data AreSameSource (before now : FileMap) : Source → Source → Type 0 where
  one_mode : (mode : Mode) → AreSameSource before now (of_mode mode) (of_mode mode)
  one_text : (name other : List ℕ) → get before name ≡ get now other → AreSameSource before now (of_file name) (of_file other)

-- what the translation read is what the lift's names hold now, whatever their names are: the two files, and the source of the tags; and the lift's limit of prime implicates is no smaller
pub record IsOfTheSame (t : Asked) (before : FileMap) (c : Asked) (now : FileMap) : Type 0 where
  pub domain : get before t.domain ≡ get now c.domain
  pub problem : get before t.problem ≡ get now c.problem
  pub source : AreSameSource before now (source_of t) (source_of c)
  pub implicates : t.implicates ≤ c.implicates

-- the plan file has a plan of the two files, within the limit of bytes
pub record HoldsPlan (held : FileMap) (c : Asked) (plan : List Step) : Type 0 where
  pub domain : List ℕ
  pub problem : List ℕ
  pub text : List ℕ
  pub steps : List PlanStep
  pub domain_held : get held c.domain ≡ Some domain
  pub problem_held : get held c.problem ≡ Some problem
  pub plan_held : get held c.plan ≡ Some text
  pub short : length text ≤ most_bytes
  pub reads : IsPlanFile text steps
  pub names_are : step_names steps ≡ plan
  pub is_plan : IsPlan domain problem plan

-- under the two names that the translation put there are files of which this is a plan, and it strips to the given one
pub record IsWrittenFor (t : Asked) (after : FileMap) (plan written : List Step) : Type 0 where
  pub domain_out : List ℕ
  pub problem_out : List ℕ
  pub domain_put : get after t.domain_out ≡ Some domain_out
  pub problem_put : get after t.problem_out ≡ Some problem_out
  pub is_plan : IsPlan domain_out problem_out written
  pub strips : strip written ≡ Some plan

-- the lift ended with Done, and told the lines of such a plan, which read as that plan
pub record IsLiftedTo (t : Asked) (after : FileMap) (plan : List Step) (old new : Outside) (s : Status) : Type 0 where
  pub written : List Step
  pub is_written : IsWrittenFor t after plan written
  pub status_is : s ≡ status.Done
  pub told : new.told ≡ with_bytes old.told (plan_text written)
  pub told_reads : IsTextOf (plan_text written) written

-- the lift ended with such lines (`IsLiftedTo`); or with want of memory, or with a fault of reading or of writing
abbrev pub EndsLifted : Asked → FileMap → List Step → Outside → Outside → Status → Type 0
EndsLifted t after plan old new s = IsLiftedTo t after plan old new s ⊎ (s ≡ status.Memory) ⊎ (s ≡ status.ReadFault) ⊎ (s ≡ status.WriteFault)

-- Whenever a translation of the same files told `complete`, each plan of them that the plan file holds lifts. Its run may be any that ended so.
abbrev pub LosesNoPlan : Ending → Asked → Outside → Outside → Status → Type 0
LosesNoPlan ends c old new s = (words : List (Vec ℕ Global)) (t : Asked) (before after now : FileMap) (plan : List Step) → RanComplete ends words t before after → old.held ≡ Some now → IsOfTheSame t before c now → HoldsPlan now c plan → EndsLifted t after plan old new s

-- ---- a law, to which no clause leads: without a lift

-- Whenever a translation told `complete`, each plan of the two files that it read, of any length, is the strip of a plan of the two that it put. So a solvable problem stays solvable.
abbrev pub StaysSolvable : Ending → Type 0
StaysSolvable ends = (words : List (Vec ℕ Global)) (t : Asked) (before after : FileMap) (domain problem : List ℕ) (plan : List Step) → RanComplete ends words t before after → get before t.domain ≡ Some domain → get before t.problem ≡ Some problem → IsPlan domain problem plan → (written : List Step) × IsWrittenFor t after plan written
