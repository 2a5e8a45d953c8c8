-- What `translate` answers: the task of a ground problem and a table, or that it is larger than a limit allows; and what `outline` answers of it.
use Rattle.std.specs.Prelude.{◌≡◌, ◌<◌, ◌≤◌, ℕ, [], length, Result, Ok, Err}
use Rattle.kp_base.specs.declared.lit.Lit.{Lit}
use Rattle.kp_base.specs.declared.ground.Ground.{Ground}
use Rattle.kp_base.specs.declared.ground.TagTable.{TagTable}
use Rattle.kp_base.specs.declared.limits.Limits.{Limits}
use Rattle.kp_base.specs.declared.refused.Refused.{Refused}
use Rattle.kp_base.specs.declared.refused.Refused.TheVariants as refusals
use Rattle.kp_base.specs.declared.refused.Stop.{Stop}
use Rattle.kp_base.specs.declared.refused.Stop.TheVariants as stops
use Rattle.kp_classic.specs.declared.task.Task.{Task}
use Rattle.kp_law_ktask.specs.Task.{number, task_of}
use Rattle.kp_law_ktask.specs.Weight.{weight_of}

-- a task that has more facts than the limit, or else is heavier
pub data RefusesTask (t : Task) (limits : Limits) : Refused → Type 0 where
  facts_over : limits.facts < length t.facts → RefusesTask t limits refusals.FactsOver
  weight_over : length t.facts ≤ limits.facts → limits.task_weight < weight_of t → RefusesTask t limits refusals.WeightOver

-- a task within the limits
pub record FitsLimits (t : Task) (limits : Limits) : Type 0 where
  pub facts : length t.facts ≤ limits.facts
  pub weight : weight_of t ≤ limits.task_weight

-- a call stops with such a refusal; want of memory is free
abbrev pub StopsTask : Task → Limits → Stop → Type 0
StopsTask t limits (stops.Refused r) = RefusesTask t limits r
StopsTask t limits stops.Memory = Unit {0}

-- of a ground problem and a table: their task, which is within the limits, or the refusal
abbrev pub AnswersTask : Ground → TagTable → Limits → Result Task Stop → Type 0
AnswersTask g table limits (Ok t) = FitsLimits (task_of g table) limits × (t ≡ task_of g table)
AnswersTask g table limits (Err stop) = StopsTask (task_of g table) limits stop

-- a task as far as its operators
abbrev pub without_operators : Task → Task
without_operators t = record { facts = t.facts; init = t.init; goal = t.goal; ops = [] }

-- the literal is that of the fact, under some tag, with so many atoms
pub record IsLiteralOf (atoms fact : ℕ) (l : Lit) : Type 0 where
  pub below : l.atom.0 < atoms
  pub tag : ℕ
  pub is_number : number atoms (record { tag = tag; lit = l }) ≡ fact
