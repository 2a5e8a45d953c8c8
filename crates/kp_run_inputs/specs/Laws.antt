-- What is proved of the tables of sources, of the empty tag alone, and of the actions of plans.
use Rattle.std.specs.Prelude.{◌≡◌, ◌⊎◌, ℕ, List, length}
use Rattle.kp_base.specs.declared.ground.Ground.{Ground}
use Rattle.kp_base.specs.declared.ground.Initial.{Initial}
use Rattle.kp_base.specs.declared.ground.TagTable.{TagTable}
use Rattle.kp_base.specs.declared.limits.Mode.{Mode}
use Rattle.kp_base.specs.declared.refused.Refused.{Refused}
use Rattle.kp_base.specs.Covering.{IsComplete}
use Rattle.kp_base.specs.Implicates.{IsOfItsAtoms}
use Rattle.kp_base.specs.Entailed.{HaveSameModels, IsTable, AreValid}
use Rattle.kp_tree_grammar.specs.declared.tree.Word.{Word}
use Rattle.kp_tree_grammar.specs.Trees.{Domain, Problem}
use Rattle.kp_law_ktask.specs.Task.{task_of}
use Rattle.kp_ktask.specs.Translated.{FitsLimits}
use Rattle.kp_law_translation.specs.OfTrees.{ground_of}
use Rattle.kp_law_translation.specs.Tables.{empty_tag}
use Rattle.kp_run_prepare.specs.Prepared.{usual, IsSmall}
use Rattle.kp_plans.specs.declared.step.PlanStep.{PlanStep}
use Rattle.kp_tags_modes.specs.Modes.{CoversEach}
use Rattle.kp_law_decidable.specs.Laws.{AreProper}
use Rattle.kp_run_messages.specs.Refusals.{Nameable}
use Rattle.kp_words.specs.Asked.{Source, of_mode}
use Rattle.kp_words.specs.Command.{file_of, if_named}
use Rattle.kp_run_inputs.specs.SourceTables.{HasTable, RefusesSource}
use Rattle.kp_run_inputs.specs.Actions.{HasActions, RefusesActions}

-- ---- tables

-- the table of a source is right, and its merges are valid
abbrev pub TablesAreRight : Type 0
TablesAreRight = (g : Ground) (i : Initial) (source : Source) (merges : List (List ℕ)) (table : TagTable) → IsOfItsAtoms g → HasTable g i source merges table → IsTable g i table × AreValid i table

-- the table of `models`, and that of `auto`, is complete
abbrev pub SomeTablesAreComplete : Type 0
SomeTablesAreComplete = (g : Ground) (i : Initial) (mode : Mode) (merges : List (List ℕ)) (table : TagTable) → CoversEach mode → IsOfItsAtoms g → HasTable g i (of_mode mode) merges table → IsComplete g i table

-- a source has one table, or one refusal, and never both
pub record IsOneTable (g : Ground) (i : Initial) (source : Source) (merges : List (List ℕ)) : Type 0 where
  pub tables : (t v : TagTable) → HasTable g i source merges t → HasTable g i source merges v → t ≡ v
  pub refusals : (a b : Nameable) (r s : Refused) → RefusesSource g i source merges a r → RefusesSource g i source merges b s → (a ≡ b) × (r ≡ s)
  pub either : (t : TagTable) (a : Nameable) (r : Refused) → HasTable g i source merges t → RefusesSource g i source merges a r → ⊥

abbrev pub SourcesHaveOneTable : Type 0
SourcesHaveOneTable = (g : Ground) (i : Initial) (source : Source) (merges : List (List ℕ)) → IsOneTable g i source merges

-- it has a table, or a refusal, where it comes with as many texts as it names files
abbrev pub SourcesAreDecided : Type 0
SourcesAreDecided = (g : Ground) (i : Initial) (source : Source) (merges : List (List ℕ)) → AreProper g i → length merges ≡ length (if_named (file_of source)) → ((t : TagTable) × HasTable g i source merges t) ⊎ ((a : Nameable) × (r : Refused) × RefusesSource g i source merges a r)

-- which it has goes by the models alone
pub record IsAlike (g : Ground) (i j : Initial) (source : Source) (merges : List (List ℕ)) : Type 0 where
  pub tables : (t : TagTable) → HasTable g i source merges t → HasTable g j source merges t
  pub refusals : (a : Nameable) (r : Refused) → RefusesSource g i source merges a r → RefusesSource g j source merges a r

abbrev pub SourcesGoByModels : Type 0
SourcesGoByModels = (g : Ground) (i j : Initial) (source : Source) (merges : List (List ℕ)) → HaveSameModels i j → IsAlike g i j source merges

-- where the ground problem of two trees is within the limits, its task with the empty tag alone is, too
abbrev pub EmptyTagsFit : Type 0
EmptyTagsFit = (d : Domain Word) (p : Problem Word) → IsSmall d p → FitsLimits (task_of (ground_of d p) (empty_tag d p)) usual

-- ---- plans

-- a text has one list of actions, or one refusal, and never both
pub record IsOnePlan (g : Ground) (text : List ℕ) : Type 0 where
  pub actions : (ss ts : List PlanStep) (ms ns : List ℕ) → HasActions g text ss ms → HasActions g text ts ns → ms ≡ ns
  pub refusals : (a b : Nameable) (r s : Refused) → RefusesActions g text a r → RefusesActions g text b s → (a ≡ b) × (r ≡ s)
  pub either : (ss : List PlanStep) (ms : List ℕ) (a : Nameable) (r : Refused) → HasActions g text ss ms → RefusesActions g text a r → ⊥

abbrev pub PlansHaveOneList : Type 0
PlansHaveOneList = (g : Ground) (text : List ℕ) → IsOnePlan g text

-- it has actions, or a refusal
abbrev pub PlansAreDecided : Type 0
PlansAreDecided = (g : Ground) (text : List ℕ) → ((ss : List PlanStep) × (ms : List ℕ) × HasActions g text ss ms) ⊎ ((a : Nameable) × (r : Refused) × RefusesActions g text a r)
