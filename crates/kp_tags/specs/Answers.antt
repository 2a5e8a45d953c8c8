-- What is answered on the merges of a file.
use Rattle.std.specs.Prelude.{◌≡◌, ◌<◌, ◌≤◌, ℕ, List, Option, Some, None, Result, Ok, Err, length, take, slice_get}
use Rattle.kp_base.specs.declared.lit.Lit.{Lit}
use Rattle.kp_base.specs.declared.lit.AtomId.{AtomId}
use Rattle.kp_base.specs.declared.ground.Initial.{Initial}
use Rattle.kp_base.specs.declared.ground.TagTable.{TagTable}
use Rattle.kp_base.specs.declared.refused.Stop.{Stop}
use Rattle.kp_base.specs.declared.refused.Stop.TheVariants as stops
use Rattle.kp_base.specs.declared.refused.Refused.{Refused}
use Rattle.kp_base.specs.declared.refused.Refused.TheVariants as refusals
use Rattle.kp_base.specs.Lists.{Member}
use Rattle.kp_base.specs.Entailed.{IsConsistent}
use Rattle.kp_primes_first_model.specs.Ordered.{AreFirst}
use Rattle.kp_cover.specs.Valid.{AreValidTags, is_outside}
use Rattle.kp_tags_files.specs.declared.merge.FileMerge.{FileMerge}
use Rattle.kp_tags.specs.MergeTables.{used_tags, IsTableOf}

-- ---- one merge

-- each tag is consistent
pub record AreConsistent (i : Initial) (tags : List (List Lit)) : Type 0 where
  pub each : (t : List Lit) → Member tags t → IsConsistent i t

-- the first inconsistent tag stands at this place
pub record IsFirstInconsistent (i : Initial) (tags : List (List Lit)) (place : ℕ) : Type 0 where
  pub tag : List Lit
  pub tag_at : slice_get tags place ≡ Some tag
  pub inconsistent : IsConsistent i tag → ⊥
  pub before : AreConsistent i (take place tags)

-- where the first inconsistent tag stands, if one is
abbrev pub AnswersInconsistent : Initial → List (List Lit) → Option ℕ → Type 0
AnswersInconsistent i tags None = AreConsistent i tags
AnswersInconsistent i tags (Some place) = IsFirstInconsistent i tags place

-- each tag is consistent, and each model makes one of them true
pub record AreAcceptable (i : Initial) (tags : List (List Lit)) : Type 0 where
  pub consistent : AreConsistent i tags
  pub valid : AreValidTags i tags

-- what is at fault with the merge of this number: its first inconsistent tag; or all are consistent, and the first model outside them
pub data RefusesMerge (atoms : ℕ) (i : Initial) (number : ℕ) (tags : List (List Lit)) : Refused → Type 0 where
  inconsistent : (place : ℕ) → IsFirstInconsistent i tags place → RefusesMerge atoms i number tags (refusals.TagInconsistent number place)
  invalid : (state : List AtomId) → AreConsistent i tags → AreFirst atoms (is_outside i tags) state → RefusesMerge atoms i number tags (refusals.MergeInvalid number state)

-- what is answered on one merge
abbrev pub AnswersMerge : ℕ → Initial → ℕ → List (List Lit) → Result Unit Stop → Type 0
AnswersMerge atoms i number tags (Ok done) = AreAcceptable i tags
AnswersMerge atoms i number tags (Err (stops.Refused r)) = RefusesMerge atoms i number tags r
AnswersMerge atoms i number tags (Err stops.Memory) = Unit {0}

-- ---- all merges

-- each merge has acceptable tags
pub record AreAllAcceptable (i : Initial) (ms : List FileMerge) : Type 0 where
  pub each : (m : FileMerge) → Member ms m → AreAcceptable i m.tags

-- the first merge at fault is refused so
pub record RefusesFirstMerge (atoms : ℕ) (i : Initial) (ms : List FileMerge) (r : Refused) : Type 0 where
  pub number : ℕ
  pub merge : FileMerge
  pub merge_at : slice_get ms number ≡ Some merge
  pub before : AreAllAcceptable i (take number ms)
  pub fault : RefusesMerge atoms i number merge.tags r

-- whether a merge is at fault
abbrev pub AnswersMerges : ℕ → Initial → List FileMerge → Result Unit Stop → Type 0
AnswersMerges atoms i ms (Ok done) = AreAllAcceptable i ms
AnswersMerges atoms i ms (Err (stops.Refused r)) = RefusesFirstMerge atoms i ms r
AnswersMerges atoms i ms (Err stops.Memory) = Unit {0}

-- ---- the table

-- no merge is at fault, the tags are within the limit, and this is the table
pub record Accepts (atoms : ℕ) (i : Initial) (ms : List FileMerge) (limit : ℕ) (table : TagTable) : Type 0 where
  pub acceptable : AreAllAcceptable i ms
  pub within_limit : length (used_tags ms) ≤ limit
  pub is_table : IsTableOf atoms i ms table

-- why there is no table: a merge is at fault; or none is, and there are too many tags
pub data RefusesTable (atoms : ℕ) (i : Initial) (ms : List FileMerge) (limit : ℕ) : Refused → Type 0 where
  at_fault : (r : Refused) → RefusesFirstMerge atoms i ms r → RefusesTable atoms i ms limit r
  tags_over : AreAllAcceptable i ms → limit < length (used_tags ms) → RefusesTable atoms i ms limit refusals.TagsOver

-- what is answered
abbrev pub AnswersTable : ℕ → Initial → List FileMerge → ℕ → Result TagTable Stop → Type 0
AnswersTable atoms i ms limit (Ok table) = Accepts atoms i ms limit table
AnswersTable atoms i ms limit (Err (stops.Refused r)) = RefusesTable atoms i ms limit r
AnswersTable atoms i ms limit (Err stops.Memory) = Unit {0}
