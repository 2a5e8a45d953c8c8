-- What a run of each command ends with, on files with which it goes on.
use Rattle.std.specs.Prelude.{◌≡◌, ◌↔◌, ◌≤◌, ℕ, List, Some, length}
use Rattle.std.specs.FinMap.{get}
use Rattle.kp_base.specs.declared.ground.GroundName.{GroundName}
use Rattle.kp_base.specs.declared.ground.TagTable.{TagTable}
use Rattle.kp_base.specs.declared.limits.Mode.{Mode}
use Rattle.kp_base.specs.declared.lit.Lit.{Lit}
use Rattle.kp_base.specs.declared.refused.ClashAt.{ClashAt}
use Rattle.kp_base.specs.declared.refused.Refused.TheVariants as refusals
use Rattle.kp_base.specs.Covering.{IsComplete, AreUncovered}
use Rattle.kp_base.specs.Exclusive.{ClashesFirst}
use Rattle.kp_tree_grammar.specs.declared.tree.Word.{Word}
use Rattle.kp_tree_grammar.specs.Trees.{Domain, Problem}
use Rattle.kp_names_semantics.specs.Steps.{Step}
use Rattle.kp_names_semantics.specs.Plans.{IsPlan}
use Rattle.kp_names_semantics.specs.Strip.{strip}
use Rattle.kp_plans.specs.declared.step.PlanStep.{PlanStep}
use Rattle.kp_plans.specs.PlanFiles.{step_names, IsPlanFile}
use Rattle.kp_plans.specs.Printed.{plan_text, IsTextOf}
use Rattle.kp_law_ktask.specs.Task.{task_of}
use Rattle.kp_ktask.specs.Translated.{FitsLimits}
use Rattle.kp_tags_files.specs.Printed.{merges_of, merges_text}
use Rattle.kp_tags_modes.specs.Modes.{CoversEach}
use Rattle.kp_tags.specs.Made.{IsMade}
use Rattle.kp_check.specs.declared.answer.Judged.{Judged}
use Rattle.kp_check.specs.Judging.{IsVerdict}
use Rattle.kp_law_translation.specs.OfTrees.{ground_of, initial_of}
use Rattle.kp_law_translation.specs.Written.{translation_of}
use Rattle.kp_outside.specs.Outside.{FileMap}
use Rattle.kp_run_outcome.specs.declared.outcome.Outcome.{Outcome}
use Rattle.kp_run_outcome.specs.declared.status.Status.TheVariants as status
use Rattle.kp_base.specs.Files.{most_bytes}
use Rattle.kp_run_outcome.specs.Ends.{Outside, AreHeld, IsAnswer}
use Rattle.kp_run_outcome.specs.Printing.{prints}
use Rattle.kp_words.specs.Asked.{Source, of_mode, Asked, source_of}
use Rattle.kp_words.specs.declared.verb.Verb.TheVariants as verbs
use Rattle.kp_words.specs.Command.{IsCall, file_of, if_named}
use Rattle.kp_run_prepare.specs.Texts.{HaveTrees}
use Rattle.kp_run_prepare.specs.Refusing.{refuses, named_in}
use Rattle.kp_run_prepare.specs.Prepared.{usual, IsStarted}
use Rattle.kp_run_inputs.specs.SourceTables.{HasTable}
use Rattle.kp_run_inputs.specs.Actions.{HasActions}
use Rattle.kp_run.specs.Translate.{translates}
use Rattle.kp_run.specs.Lift.{LiftsActions}
use Rattle.kp_run.specs.Check.{tells}
use Rattle.kp_run.specs.Solved.{GoesOn, Tells}
use Rattle.kp_run.specs.Completeness.{PrintsComplete}
use Rattle.kp_law_runs.specs.Follows.{OfRuns, EndsWith}

-- the source of a translation has this table for such trees, on the texts of its file of merges if it names one; its task is within the limits, and it leaves these targets uncovered
pub record HasTranslation (m : FileMap) (source : Source) (d : Domain Word) (p : Problem Word) (table : TagTable) (uncovered : List Lit) : Type 0 where
  pub merges : List (List ℕ)
  pub held : AreHeld (Some m) (if_named (file_of source)) merges
  pub has_table : HasTable (ground_of d p) (initial_of d p) source merges table
  pub fits : FitsLimits (task_of (ground_of d p) table) usual
  pub are_uncovered : AreUncovered (ground_of d p) (initial_of d p) table uncovered

-- a translation of such files: the run ends with their translation
abbrev pub TranslationsAreAnswered : Type 0
TranslationsAreAnswered = OfRuns (λ words old new s. (m : FileMap) (c : Asked) (d : Domain Word) (p : Problem Word) (table : TagTable) (uncovered : List Lit)
    → old.held ≡ Some m → IsCall verbs.Translate words c → GoesOn m c.domain c.problem c.implicates d p → HasTranslation m (source_of c) d p table uncovered
    → EndsWith (translates c (ground_of d p) table uncovered) old new s)

-- where such a run ends with an answer, the last line that it told is `complete` exactly where the table is complete
abbrev pub CompleteIsTrue : Type 0
CompleteIsTrue = OfRuns (λ words old new s. (m : FileMap) (c : Asked) (d : Domain Word) (p : Problem Word) (table : TagTable) (uncovered : List Lit)
    → old.held ≡ Some m → IsCall verbs.Translate words c → GoesOn m c.domain c.problem c.implicates d p → HasTranslation m (source_of c) d p table uncovered → IsAnswer s
    → (text : List ℕ) × Tells old new text × (PrintsComplete text ↔ IsComplete (ground_of d p) (initial_of d p) table))

-- under `--mode models`, and under `--mode auto`, a translation that ends with Done told `complete` as its last line
abbrev pub SomeModesTellComplete : Type 0
SomeModesTellComplete = OfRuns (λ words old new s. (c : Asked) (mode : Mode) → IsCall verbs.Translate words c → source_of c ≡ of_mode mode → CoversEach mode → s ≡ status.Done → (text : List ℕ) × Tells old new text × PrintsComplete text)

-- merges of such files in a mode: the run ends with the merges of its table
abbrev pub MergesAreListed : Type 0
MergesAreListed = OfRuns (λ words old new s. (m : FileMap) (c : Asked) (d : Domain Word) (p : Problem Word) (table : TagTable)
    → old.held ≡ Some m → IsCall verbs.Merges words c → GoesOn m c.domain c.problem c.implicates d p → IsMade c.mode usual (ground_of d p) (initial_of d p) table
    → EndsWith (prints (merges_text (ground_of d p).atoms (merges_of table))) old new s)

-- files of a translation with a clash, and whichever merges: the run ends with the lines of the first clash
abbrev pub ClashesAreAnswered : Type 0
ClashesAreAnswered = OfRuns (λ words old new s. (m : FileMap) (c : Asked) (domain problem : List ℕ) (merges : List (List ℕ)) (d : Domain Word) (p : Problem Word) (at : ClashAt)
    → old.held ≡ Some m → IsCall verbs.Translate words c → get m c.domain ≡ Some domain → get m c.problem ≡ Some problem → AreHeld (Some m) (if_named (file_of (source_of c))) merges → HaveTrees domain problem d p → IsStarted c.implicates d p → ClashesFirst (ground_of d p) (initial_of d p) at
    → EndsWith (refuses (named_in (ground_of d p)) (refusals.Clash at)) old new s)

-- under a name a plan file is held for such trees, whose steps name these actions; and this is the verdict on them
pub record HasVerdict (m : FileMap) (name : List ℕ) (d : Domain Word) (p : Problem Word) (steps : List PlanStep) (j : Judged) : Type 0 where
  pub text : List ℕ
  pub numbers : List ℕ
  pub held : get m name ≡ Some text
  pub has_actions : HasActions (ground_of d p) text steps numbers
  pub answers : IsVerdict (length (ground_of d p).atoms) (ground_of d p) (initial_of d p) numbers j

-- a check of such files and such a plan: the run ends with the verdict
abbrev pub ChecksAreAnswered : Type 0
ChecksAreAnswered = OfRuns (λ words old new s. (m : FileMap) (c : Asked) (d : Domain Word) (p : Problem Word) (steps : List PlanStep) (j : Judged)
    → old.held ≡ Some m → IsCall verbs.Check words c → GoesOn m c.domain c.problem c.implicates d p → HasVerdict m c.plan d p steps j
    → EndsWith (tells (ground_of d p) (length steps) j) old new s)

-- where such a run ends with an answer, it is Done exactly where the steps are a plan of the two files
abbrev pub ChecksAreTrue : Type 0
ChecksAreTrue = OfRuns (λ words old new s. (m : FileMap) (c : Asked) (d : Domain Word) (p : Problem Word) (steps : List PlanStep) (j : Judged)
    → old.held ≡ Some m → IsCall verbs.Check words c → (g : GoesOn m c.domain c.problem c.implicates d p) → HasVerdict m c.plan d p steps j → IsAnswer s
    → (s ≡ status.Done) ↔ IsPlan g.domain g.problem (step_names steps))

-- under a name a plan file is held for such trees, whose steps name these actions; and the table of a source has a task within the limits
pub record HasLift (m : FileMap) (source : Source) (plan : List ℕ) (d : Domain Word) (p : Problem Word) (table : TagTable) (numbers : List ℕ) : Type 0 where
  pub merges : List (List ℕ)
  pub text : List ℕ
  pub steps : List PlanStep
  pub merges_held : AreHeld (Some m) (if_named (file_of source)) merges
  pub plan_held : get m plan ≡ Some text
  pub has_table : HasTable (ground_of d p) (initial_of d p) source merges table
  pub fits : FitsLimits (task_of (ground_of d p) table) usual
  pub has_actions : HasActions (ground_of d p) text steps numbers

-- a lift of such a plan, complete or not as the table may be: the run ends with the lifted plan, or with where it fails
abbrev pub LiftsAreAnswered : Type 0
LiftsAreAnswered = OfRuns (λ words old new s. (m : FileMap) (c : Asked) (d : Domain Word) (p : Problem Word) (table : TagTable) (numbers : List ℕ) (o : Outcome)
    → old.held ≡ Some m → IsCall verbs.Lift words c → GoesOn m c.domain c.problem c.implicates d p → HasLift m (source_of c) c.plan d p table numbers → LiftsActions (ground_of d p) table numbers o
    → EndsWith o old new s)

-- some plan of what is written for such trees and table strips to these steps by name
abbrev pub StripsTo : Domain Word → Problem Word → TagTable → List Step → Type 0
StripsTo d p table plan = (written : List Step) × IsPlan (translation_of d p table).domain (translation_of d p table).problem written × (strip written ≡ Some plan)

-- where such a run ends with an answer, it is Done exactly where some plan of the translation strips to the steps of the plan file
abbrev pub LiftsAreTrue : Type 0
LiftsAreTrue = OfRuns (λ words old new s. (m : FileMap) (c : Asked) (d : Domain Word) (p : Problem Word) (table : TagTable) (numbers : List ℕ)
    → old.held ≡ Some m → IsCall verbs.Lift words c → GoesOn m c.domain c.problem c.implicates d p → (h : HasLift m (source_of c) c.plan d p table numbers) → IsAnswer s
    → (s ≡ status.Done) ↔ StripsTo d p table (step_names h.steps))

-- the lines of a plan of the translation were told, which read as it, and it strips to these steps by name
pub record IsToldLift (d : Domain Word) (p : Problem Word) (table : TagTable) (plan : List Step) (old new : Outside) : Type 0 where
  pub written : List Step
  pub is_plan : IsPlan (translation_of d p table).domain (translation_of d p table).problem written
  pub strips : strip written ≡ Some plan
  pub told : Tells old new (plan_text written)
  pub told_reads : IsTextOf (plan_text written) written

-- so it is where such a run ends with Done, whether the table is complete or not: what it told strips to the steps of the plan file
abbrev pub LiftedLinesStrip : Type 0
LiftedLinesStrip = OfRuns (λ words old new s. (m : FileMap) (c : Asked) (d : Domain Word) (p : Problem Word) (table : TagTable) (numbers : List ℕ)
    → old.held ≡ Some m → IsCall verbs.Lift words c → GoesOn m c.domain c.problem c.implicates d p → (h : HasLift m (source_of c) c.plan d p table numbers) → s ≡ status.Done
    → IsToldLift d p table (step_names h.steps) old new)

-- a held plan file that isn't too long, reads and strips: the run ends with what its steps come to
abbrev pub StripsAreAnswered : Type 0
StripsAreAnswered = OfRuns (λ words old new s. (m : FileMap) (c : Asked) (text : List ℕ) (steps : List PlanStep) (actions : List GroundName)
    → old.held ≡ Some m → IsCall verbs.Strip words c → get m c.written ≡ Some text → length text ≤ most_bytes → IsPlanFile text steps → strip (step_names steps) ≡ Some actions
    → EndsWith (prints (plan_text actions)) old new s)
