-- What is written of a ground problem with a table of tags and merges, and its counts.
use Rattle.std.specs.Prelude.{◌≡◌, Result, Ok, Err}
use Rattle.kp_base.specs.declared.ground.Ground.{Ground}
use Rattle.kp_base.specs.declared.ground.TagTable.{TagTable}
use Rattle.kp_base.specs.declared.limits.Limits.{Limits}
use Rattle.kp_base.specs.declared.refused.Stop.{Stop}
use Rattle.kp_write.specs.Named.{domain_of, problem_of}
use Rattle.kp_law_ktask.specs.Task.{task_of}
use Rattle.kp_ktask.specs.Translated.{FitsLimits, StopsTask}
use Rattle.kp_ktask_texts.specs.declared.translation.Translation.{Translation}
use Rattle.kp_ktask_texts.specs.Report.{counts_of}

-- the two texts of their task, and the counts
abbrev pub translation_with : Ground → TagTable → Translation
translation_with g table = record {
  domain = domain_of (task_of g table);
  problem = problem_of (task_of g table);
  counts = counts_of g table;
}

-- these texts, where the task is within the limits, or its refusal; want of memory is free
abbrev pub AnswersTranslation : Ground → TagTable → Limits → Result Translation Stop → Type 0
AnswersTranslation g table limits (Ok t) = FitsLimits (task_of g table) limits × (t ≡ translation_with g table)
AnswersTranslation g table limits (Err stop) = StopsTask (task_of g table) limits stop
