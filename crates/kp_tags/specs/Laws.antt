-- What is proved of tables of merges.
use Rattle.std.specs.Prelude.{◌≡◌, ◌≢◌, ℕ, List, length, Result, Err}
use Rattle.kp_base.specs.declared.ground.Ground.{Ground}
use Rattle.kp_base.specs.declared.ground.Initial.{Initial}
use Rattle.kp_base.specs.declared.ground.TagTable.{TagTable}
use Rattle.kp_base.specs.declared.lit.Lit.{Lit}
use Rattle.kp_base.specs.declared.limits.Limits.{Limits}
use Rattle.kp_base.specs.declared.limits.Mode.{Mode}
use Rattle.kp_base.specs.declared.refused.Stop.{Stop}
use Rattle.kp_base.specs.declared.refused.Stop.TheVariants as stops
use Rattle.kp_base.specs.Covering.{IsComplete, AreUncovered}
use Rattle.kp_base.specs.Implicates.{IsOfItsAtoms}
use Rattle.kp_base.specs.Entailed.{IsTable, AreValid, HaveSameModels}
use Rattle.kp_tags_files.specs.declared.merge.FileMerge.{FileMerge}
use Rattle.kp_tags_modes.specs.Modes.{CoversEach}
use Rattle.kp_tags.specs.MergeTables.{IsTableOf}
use Rattle.kp_tags.specs.Answers.{AreAllAcceptable, AnswersTable}
use Rattle.kp_tags.specs.Made.{IsMade, AnswersMade}

-- merges have one table
abbrev pub IsTableOnce : Type 0
IsTableOnce = (atoms : ℕ) (i : Initial) (ms : List FileMerge) (t u : TagTable) → IsTableOf atoms i ms t → IsTableOf atoms i ms u → t ≡ u

-- the table of merges none of which is at fault is right, and its merges are valid
abbrev pub AcceptedTablesAreRight : Type 0
AcceptedTablesAreRight = (g : Ground) (i : Initial) (ms : List FileMerge) (table : TagTable) → AreAllAcceptable i ms → IsTableOf (length g.atoms) i ms table → IsTable g i table × AreValid i table

-- which answer on the merges is right goes by the models alone
abbrev pub TablesGoByModels : Type 0
TablesGoByModels = (atoms : ℕ) (i j : Initial) (ms : List FileMerge) (limit : ℕ) (r : Result TagTable Stop) → HaveSameModels i j → AnswersTable atoms i ms limit r → AnswersTable atoms j ms limit r

-- ---- modes

-- the table of a mode is right, and its merges are valid
abbrev pub MadeTablesAreRight : Type 0
MadeTablesAreRight = (mode : Mode) (limits : Limits) (g : Ground) (i : Initial) (table : TagTable) → IsOfItsAtoms g → IsMade mode limits g i table → IsTable g i table × AreValid i table

-- the table of `Models`, and that of `Auto`, is complete
abbrev pub MadeTablesAreComplete : Type 0
MadeTablesAreComplete = (mode : Mode) (limits : Limits) (g : Ground) (i : Initial) (table : TagTable) → CoversEach mode → IsOfItsAtoms g → IsMade mode limits g i table → IsComplete g i table

-- two answers in a mode are the same, also by formulas with the same models
abbrev pub IsMadeOnce : Type 0
IsMadeOnce = (mode : Mode) (limits : Limits) (g : Ground) (i j : Initial) (r s : Result TagTable Stop) → HaveSameModels i j → r ≢ Err stops.Memory → s ≢ Err stops.Memory → AnswersMade mode limits g i r → AnswersMade mode limits g j s → r ≡ s

-- which answer in a mode is right goes by the models alone
abbrev pub TablesMadeGoByModels : Type 0
TablesMadeGoByModels = (mode : Mode) (limits : Limits) (g : Ground) (i j : Initial) (r : Result TagTable Stop) → HaveSameModels i j → AnswersMade mode limits g i r → AnswersMade mode limits g j r

-- and so does which targets a table leaves uncovered
abbrev pub CoverageGoesByModels : Type 0
CoverageGoesByModels = (g : Ground) (i j : Initial) (table : TagTable) (ls : List Lit) → HaveSameModels i j → AreUncovered g i table ls → AreUncovered g j table ls
