-- The table of tags and merges with which a command goes on: that of its mode, or of its file of merges; or why there is none.
use Rattle.std.specs.Prelude.{◌≡◌, ◌<◌, ◌≤◌, ℕ, List, [], ◌∷◌, Some, Result, Ok, Err, length}
use Rattle.kp_base.specs.declared.ground.Ground.{Ground}
use Rattle.kp_base.specs.declared.ground.Initial.{Initial}
use Rattle.kp_base.specs.declared.ground.TagTable.{TagTable}
use Rattle.kp_base.specs.declared.limits.Mode.{Mode}
use Rattle.kp_base.specs.declared.refused.Part.TheVariants as parts
use Rattle.kp_base.specs.declared.refused.Refused.{Refused}
use Rattle.kp_base.specs.declared.refused.Refused.TheVariants as refusals
use Rattle.kp_tags_files.specs.declared.merge.FileMerge.{FileMerge}
use Rattle.kp_tags_files.specs.MergesFiles.{IsMergesOf, RefusesMerges}
use Rattle.kp_tags.specs.Answers.{Accepts, RefusesTable}
use Rattle.kp_tags.specs.Made.{IsMade, RefusesMade}
use Rattle.kp_outside.specs.declared.outside.Got.{Got}
use Rattle.kp_outside.specs.Outside.{IsFront, IsWithin}
use Rattle.kp_run_outcome.specs.declared.outcome.Outcome.{Outcome}
use Rattle.kp_base.specs.Files.{most_bytes}
use Rattle.kp_run_messages.specs.Refusals.{Nameable, nothing}
use Rattle.kp_words.specs.Asked.{Source, of_mode, of_file}
use Rattle.kp_run_prepare.specs.declared.prepared.Early.{Early}
use Rattle.kp_run_prepare.specs.declared.prepared.Early.TheVariants as halts
use Rattle.kp_run_prepare.specs.Refusing.{refuses, named_in}
use Rattle.kp_run_prepare.specs.Prepared.{usual}
use Rattle.kp_run_inputs.specs.declared.origin.Origin.{Origin}
use Rattle.kp_run_inputs.specs.declared.origin.Origin.TheVariants as origins

-- ---- tables and refusals

-- a ground problem with its initial formula has this table, within the limits on tags and sets: that of the mode, where no text is given; or that of the merges of the one text that is
pub data HasTable (g : Ground) (i : Initial) : Source → List (List ℕ) → TagTable → Type 0 where
  by_mode : (mode : Mode) (table : TagTable) → IsMade mode usual g i table → HasTable g i (of_mode mode) [] table
  by_file : (name text : List ℕ) (ms : List FileMerge) (table : TagTable) → length text ≤ most_bytes → IsMergesOf g.atoms text ms → Accepts (length g.atoms) i ms usual.tags table → HasTable g i (of_file name) (text ∷ []) table

-- it has none, and this is refused, with what the refusal may name: the first of these that holds
pub data RefusesSource (g : Ground) (i : Initial) : Source → List (List ℕ) → Nameable → Refused → Type 0 where
  of_its_mode : (mode : Mode) (r : Refused) → RefusesMade mode usual g i r → RefusesSource g i (of_mode mode) [] (named_in g) r
  long_file : (name text : List ℕ) → most_bytes < length text → RefusesSource g i (of_file name) (text ∷ []) nothing (refusals.TooLong parts.Merges)
  no_merges : (name text : List ℕ) (r : Refused) → length text ≤ most_bytes → RefusesMerges g.atoms text r → RefusesSource g i (of_file name) (text ∷ []) nothing r
  bad_merges : (name text : List ℕ) (ms : List FileMerge) (r : Refused) → length text ≤ most_bytes → IsMergesOf g.atoms text ms → RefusesTable (length g.atoms) i ms usual.tags r → RefusesSource g i (of_file name) (text ∷ []) (named_in g) r

-- ---- commands

-- a command that goes on so with a table comes to this: a refusal, or it goes on
pub data ComesByTable (g : Ground) (i : Initial) (source : Source) (merges : List (List ℕ)) (goes_on : TagTable → Outcome → Type 0) (o : Outcome) : Type 0 where
  no_table : (names : Nameable) (r : Refused) → RefusesSource g i source merges names r → o ≡ refuses names r → ComesByTable g i source merges goes_on o
  with_table : (table : TagTable) → HasTable g i source merges table → goes_on table o → ComesByTable g i source merges goes_on o

-- ---- the calls

-- what a source and its texts are to the code: a mode; or what was read of the one text
pub data IsOrigin : Source → List (List ℕ) → Origin → Type 0 where
  from_mode : (m : Mode) → IsOrigin (of_mode m) [] (origins.Mode m)
  from_file : (name text : List ℕ) (got : Got) → IsFront (Some text) most_bytes got → IsOrigin (of_file name) (text ∷ []) (origins.Merges got)

-- of a text no more was read than may be
abbrev pub IsShort : Origin → Type 0
IsShort (origins.Mode m) = Unit {0}
IsShort (origins.Merges got) = IsWithin most_bytes got

-- a command ends since there is no table
pub record EndsAtTable (g : Ground) (i : Initial) (source : Source) (merges : List (List ℕ)) (o : Outcome) : Type 0 where
  pub names : Nameable
  pub refused : Refused
  pub refuses_source : RefusesSource g i source merges names refused
  pub outcome : o ≡ refuses names refused

-- what is answered: the table, or the outcome with which a command ends; want of memory is free
abbrev pub AnswersTable : Ground → Initial → Source → List (List ℕ) → Result TagTable Early → Type 0
AnswersTable g i source merges (Ok table) = HasTable g i source merges table
AnswersTable g i source merges (Err (halts.With o)) = EndsAtTable g i source merges o
AnswersTable g i source merges (Err halts.Memory) = Unit {0}

-- ---- on the way; for proofs alone

-- what is answered on the merges of a text
abbrev pub AnswersMerges : Ground → ℕ → Initial → List FileMerge → Result TagTable Early → Type 0
AnswersMerges g atoms i ms (Ok table) = Accepts atoms i ms usual.tags table
AnswersMerges g atoms i ms (Err (halts.With o)) = (r : Refused) × RefusesTable atoms i ms usual.tags r × (o ≡ refuses (named_in g) r)
AnswersMerges g atoms i ms (Err halts.Memory) = Unit {0}
