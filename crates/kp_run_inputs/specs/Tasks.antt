-- The task with which a command goes on, and what is written of it; or that it is larger than a limit allows.
use Rattle.std.specs.Prelude.{◌≡◌, Result, Ok, Err}
use Rattle.kp_base.specs.declared.ground.Ground.{Ground}
use Rattle.kp_base.specs.declared.ground.TagTable.{TagTable}
use Rattle.kp_base.specs.declared.refused.Refused.{Refused}
use Rattle.kp_law_ktask.specs.Task.{task_of}
use Rattle.kp_ktask.specs.Translated.{FitsLimits, RefusesTask}
use Rattle.kp_ktask_texts.specs.declared.translation.Translation.{Translation}
use Rattle.kp_ktask_texts.specs.Translations.{translation_with}
use Rattle.kp_run_messages.specs.Refusals.{nothing}
use Rattle.kp_run_outcome.specs.declared.outcome.Outcome.{Outcome}
use Rattle.kp_run_prepare.specs.declared.prepared.Early.{Early}
use Rattle.kp_run_prepare.specs.declared.prepared.Early.TheVariants as halts
use Rattle.kp_run_prepare.specs.Refusing.{refuses}
use Rattle.kp_run_prepare.specs.Prepared.{usual}
use Rattle.kp_run_inputs.specs.declared.tabled.Tabled.{Tabled}
use Rattle.kp_run_inputs.specs.declared.translated.Translated.{Translated}
use Rattle.kp_run_inputs.specs.Tabled.{ground_in}

-- a command that goes on so with the task of a ground problem and a table comes to this: the refusal of the task, or it goes on
pub data ComesByTask (g : Ground) (table : TagTable) (goes_on : Outcome → Type 0) (o : Outcome) : Type 0 where
  no_task : (r : Refused) → RefusesTask (task_of g table) usual r → o ≡ refuses nothing r → ComesByTask g table goes_on o
  with_task : FitsLimits (task_of g table) usual → goes_on o → ComesByTask g table goes_on o

-- ---- the calls

-- a command ends since the task is refused
pub record EndsAtTask (g : Ground) (table : TagTable) (o : Outcome) : Type 0 where
  pub refused : Refused
  pub refuses_task : RefusesTask (task_of g table) usual refused
  pub outcome : o ≡ refuses nothing refused

-- so it is where a call stopped, or memory ran out
abbrev pub EndsByTask : Ground → TagTable → Early → Type 0
EndsByTask g table (halts.With o) = EndsAtTask g table o
EndsByTask g table halts.Memory = Unit {0}

-- what is answered: the problem with its task, or how a command ends
abbrev pub AnswersTask : Tabled → Result Translated Early → Type 0
AnswersTask t (Ok x) = x.tabled ≡ t
AnswersTask t (Err e) = EndsByTask (ground_in t) t.table e

-- what is written of the task, or how a command ends
abbrev pub AnswersTexts : Ground → TagTable → Result Translation Early → Type 0
AnswersTexts g table (Ok x) = FitsLimits (task_of g table) usual × (x ≡ translation_with g table)
AnswersTexts g table (Err e) = EndsByTask g table e
