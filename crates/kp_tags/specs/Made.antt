-- The table of a mode.
use Rattle.std.specs.Prelude.{◌<◌, ◌≤◌, List, Result, Ok, Err, length}
use Rattle.kp_base.specs.declared.ground.Ground.{Ground}
use Rattle.kp_base.specs.declared.ground.Initial.{Initial}
use Rattle.kp_base.specs.declared.ground.TagTable.{TagTable}
use Rattle.kp_base.specs.declared.limits.Limits.{Limits}
use Rattle.kp_base.specs.declared.limits.Mode.{Mode}
use Rattle.kp_base.specs.declared.refused.Stop.{Stop}
use Rattle.kp_base.specs.declared.refused.Stop.TheVariants as stops
use Rattle.kp_base.specs.declared.refused.Refused.{Refused}
use Rattle.kp_base.specs.declared.refused.Refused.TheVariants as refusals
use Rattle.kp_tags_files.specs.declared.merge.FileMerge.{FileMerge}
use Rattle.kp_tags_modes.specs.Modes.{way_of, AreMergesOf}
use Rattle.kp_tags_modes.specs.Answers.{RefusesMode}
use Rattle.kp_tags.specs.MergeTables.{used_tags, IsTableOf}

-- the table of the merges of the mode, whose tags are within the limit
pub record IsMade (mode : Mode) (limits : Limits) (g : Ground) (i : Initial) (table : TagTable) : Type 0 where
  pub merges : List FileMerge
  pub of_mode : AreMergesOf limits.sets g i (way_of mode) merges
  pub within_limit : length (used_tags merges) ≤ limits.tags
  pub is_table : IsTableOf (length g.atoms) i merges table

-- why there is none: the mode is refused; or its merges have too many tags
pub data RefusesMade (mode : Mode) (limits : Limits) (g : Ground) (i : Initial) : Refused → Type 0 where
  by_mode : (r : Refused) → RefusesMode limits.sets g i (way_of mode) r → RefusesMade mode limits g i r
  tags_over : (ms : List FileMerge) → AreMergesOf limits.sets g i (way_of mode) ms → limits.tags < length (used_tags ms) → RefusesMade mode limits g i refusals.TagsOver

-- what is answered
abbrev pub AnswersMade : Mode → Limits → Ground → Initial → Result TagTable Stop → Type 0
AnswersMade mode limits g i (Ok table) = IsMade mode limits g i table
AnswersMade mode limits g i (Err (stops.Refused r)) = RefusesMade mode limits g i r
AnswersMade mode limits g i (Err stops.Memory) = Unit {0}
