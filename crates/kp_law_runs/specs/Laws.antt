-- Words have an outcome on what is held.
use Rattle.std.specs.Prelude.{◌≡◌, ◌↔◌, ℕ, List, length, map, Some, Vec, codes}
use Rattle.std.specs.declared.alloc.Global.{Global}
use Rattle.kp_names_semantics.specs.Initial.{HasInitialState}
use Rattle.kp_names_semantics.specs.Plans.{HasProblem, IsPlan}
use Rattle.kp_plans.specs.declared.step.PlanStep.{PlanStep}
use Rattle.kp_plans.specs.PlanFiles.{step_names}
use Rattle.kp_plans.specs.Found.{action_of, IsFirstUnknown}
use Rattle.kp_check.specs.declared.answer.Judged.{Judged}
use Rattle.kp_check.specs.declared.answer.Judged.TheVariants.{Yes}
use Rattle.kp_check.specs.Judging.{IsVerdict}
use Rattle.kp_law_translation.specs.OfTrees.{ground_of, initial_of}
use Rattle.kp_outside.specs.Outside.{FileMap}
use Rattle.kp_run_outcome.specs.declared.outcome.Outcome.{Outcome}
use Rattle.kp_words.specs.Forms.{form}
use Rattle.kp_words.specs.Command.{IsCommand, file_among, if_named}
use Rattle.kp_words.specs.Asked.{Asked}
use Rattle.kp_run.specs.Contents.{Contents, AreContents}
use Rattle.kp_run.specs.Outcomes.{ComesTo, IsDue}

-- a command comes to an outcome on any contents, with as many of merges as it reads
abbrev pub CommandsHaveAnOutcome : Type 0
CommandsHaveAnOutcome = (c : Asked) (t : Contents) → length t.merges ≡ length (if_named (file_among (form c.verb).reads c (codes "merges"))) → (o : Outcome) × ComesTo c t o

-- words have an outcome on what is held, if, where they are a command, its input files are held
abbrev pub HasSomeOutcome : Type 0
HasSomeOutcome = (words : List (Vec ℕ Global)) (held : FileMap) → ((c : Asked) → IsCommand words c → (t : Contents) × AreContents (Some held) c t) → (o : Outcome) × IsDue words (Some held) o

-- words have at most one outcome on what is held
abbrev pub HasOneOutcome : Type 0
HasOneOutcome = (words : List (Vec ℕ Global)) (held : FileMap) (o p : Outcome) → IsDue words (Some held) o → IsDue words (Some held) p → o ≡ p

-- Where two texts have a problem in which some state is initial, the verdict on steps that name actions is yes exactly where the steps are a plan of the texts.
abbrev pub YesIsAPlan : Type 0
YesIsAPlan = (domain problem : List ℕ) (x : HasProblem domain problem) → HasInitialState x.problem → (steps : List PlanStep) (numbers : List ℕ) (j : Judged)
    → map (action_of (ground_of x.domain x.problem).actions) steps ≡ map Some numbers
    → IsVerdict (length (ground_of x.domain x.problem).atoms) (ground_of x.domain x.problem) (initial_of x.domain x.problem) numbers j
    → (j ≡ Yes) ↔ IsPlan domain problem (step_names steps)

-- and steps of which one names no action aren't a plan
abbrev pub UnknownStepsAreNoPlan : Type 0
UnknownStepsAreNoPlan = (domain problem : List ℕ) (x : HasProblem domain problem) → HasInitialState x.problem → (steps : List PlanStep) (number : ℕ)
    → IsFirstUnknown (action_of (ground_of x.domain x.problem).actions) steps number → IsPlan domain problem (step_names steps) → ⊥
