-- Each question on which the outcome of a translation turns has an answer.
use Rattle.std.specs.Prelude.{◌≡◌, ◌<◌, ◌⊎◌, ℕ, Bool, true, List, [], Some, map, length, nat_lt}
use Rattle.std.specs.List.{list_all}
use Rattle.kp_base.specs.declared.lit.Lit.{Lit}
use Rattle.kp_base.specs.declared.ground.Action.{Action}
use Rattle.kp_base.specs.declared.ground.Ground.{Ground}
use Rattle.kp_base.specs.declared.ground.Initial.{Initial}
use Rattle.kp_base.specs.declared.ground.TagTable.{TagTable}
use Rattle.kp_base.specs.declared.limits.Limits.{Limits}
use Rattle.kp_base.specs.declared.limits.Mode.{Mode}
use Rattle.kp_base.specs.declared.refused.ClashAt.{ClashAt}
use Rattle.kp_base.specs.declared.refused.Refused.{Refused}
use Rattle.kp_base.specs.Planning.{Member, IsAscending, IsOfAtoms, IsOfItsAtoms, IsLeastOver, IsNeverOver, HasModel, HasNoModel, ClashesFirst, IsClashFree, AreClausesFor, TellsConsistent, AreTagsOfClauses, AllMeet, Covers, AreUncovered, IsComplete, IsTarget}
use Rattle.kp_cover.specs.Targets.{AreTargets}
use Rattle.kp_relevance.specs.Relevant.{ArePairsOf}
use Rattle.kp_width.specs.declared.report.WidthReport.{WidthReport}
use Rattle.kp_width.specs.Answers.{IsReport, RefusesWidth}
use Rattle.kp_width.specs.Laws.{HasSomeWidth}
use Rattle.kp_tree_grammar.specs.declared.tree.Word.{Word}
use Rattle.kp_tree_grammar.specs.Trees.{Domain, Problem}
use Rattle.kp_names_semantics.specs.Faults.{HasNoFault}
use Rattle.kp_names_semantics.specs.Numbered.{Lifted}
use Rattle.kp_names.specs.Resolved.{RefusesNames}
use Rattle.kp_ground_semantics.specs.Ground.{ground_of}
use Rattle.kp_ground.specs.Grounded.{IsGrounded, RefusesGround}
use Rattle.kp_init.specs.Initial.{initial_of}
use Rattle.kp_check.specs.declared.answer.Judged.{Judged}
use Rattle.kp_check.specs.Judging.{IsVerdict}
use Rattle.kp_plans.specs.declared.step.PlanStep.{PlanStep}
use Rattle.kp_plans.specs.Found.{action_of, IsFirstUnknown}
use Rattle.kp_tags_files.specs.declared.merge.FileMerge.{FileMerge}
use Rattle.kp_tags.specs.MergeTables.{has_tags_of_atoms}
use Rattle.kp_tags.specs.Answers.{Accepts, RefusesTable}
use Rattle.kp_tags.specs.Made.{IsMade, RefusesMade}
use Rattle.kp_tags_modes.specs.Modes.{way_of, AreMergesOf}
use Rattle.kp_tags_modes.specs.Answers.{RefusesMode}

-- no name of two trees is at fault, or the trees are refused for one
abbrev pub NamesAreDecided : Type 0
NamesAreDecided = (domain problem : List ℕ) (d : Domain Word) (p : Problem Word) → HasNoFault d p ⊎ ((r : Refused) × RefusesNames domain problem d p r)

-- a problem by number is refused for its size, or it has a ground problem
abbrev pub SizesAreDecided : Type 0
SizesAreDecided = (l : Lifted) (limits : Limits) → ((r : Refused) × RefusesGround l limits r) ⊎ IsGrounded l limits (ground_of l)

-- each clause of the formula is in ascending order
abbrev pub HasAscendingClauses : Initial → Type 0
HasAscendingClauses i = (c : List Lit) → Member i.clauses c → IsAscending c

-- the initial formula of a problem by number is so
abbrev pub FormulasAreAscending : Type 0
FormulasAreAscending = (l : Lifted) → HasAscendingClauses (initial_of l)

-- of such a formula, some least number of first clauses has more prime implicates than a limit, or no number of them has
abbrev pub ImplicatesAreCounted : Type 0
ImplicatesAreCounted = (i : Initial) (limit : ℕ) → HasAscendingClauses i → ((k : ℕ) × IsLeastOver i limit k) ⊎ IsNeverOver i limit

-- a formula over finitely many atoms has a model, or none
abbrev pub ModelsAreDecided : Type 0
ModelsAreDecided = (n : ℕ) (i : Initial) → IsOfAtoms n i → HasModel i ⊎ HasNoModel i

-- where the formula speaks of ground atoms alone, some clash is the first, or no action clashes
abbrev pub ClashesAreDecided : Type 0
ClashesAreDecided = (g : Ground) (i : Initial) → IsOfAtoms (length g.atoms) i → ((c : ClashAt) × ClashesFirst g i c) ⊎ IsClashFree g i

-- where the formula and the tags speak of ground atoms alone, merges have a table, or are refused
abbrev pub TablesAreDecided : Type 0
TablesAreDecided = (atoms : ℕ) (i : Initial) (ms : List FileMerge) (limit : ℕ) → IsOfAtoms atoms i → list_all (has_tags_of_atoms atoms) ms ≡ true → ((table : TagTable) × Accepts atoms i ms limit table) ⊎ ((r : Refused) × RefusesTable atoms i ms limit r)

-- where the formula and the ground problem speak of ground atoms alone, the numbers of actions have a verdict
abbrev pub VerdictsAreDecided : Type 0
VerdictsAreDecided = (atoms : ℕ) (g : Ground) (i : Initial) (ns : List ℕ) → IsOfAtoms atoms i → length g.atoms ≡ atoms → IsOfItsAtoms g → list_all (λ m. nat_lt m (length g.actions)) ns ≡ true → (j : Judged) × IsVerdict atoms g i ns j

-- each step names an action, or some step is the first that names none
abbrev pub StepsAreDecided : Type 0
StepsAreDecided = (actions : List Action) (steps : List PlanStep) → ((ns : List ℕ) × (map (action_of actions) steps ≡ map Some ns)) ⊎ ((n : ℕ) × IsFirstUnknown (action_of actions) steps n)

-- ---- relevance, covers and modes

-- a ground problem and its initial formula speak of the ground atoms alone, each clause is in ascending order, and there is a model
pub record AreProper (g : Ground) (i : Initial) : Type 0 where
  pub own_atoms : IsOfItsAtoms g
  pub over : IsOfAtoms (length g.atoms) i
  pub ascending : HasAscendingClauses i
  pub model : HasModel i

-- some pairs of literals are those of a ground problem that speaks of its atoms alone
abbrev pub RelevanceIsDecided : Type 0
RelevanceIsDecided = (g : Ground) → IsOfItsAtoms g → (pairs : List (Lit × Lit)) × ArePairsOf g pairs

-- some clauses are those that are relevant to a literal of a ground atom
abbrev pub ClausesAreDecided : Type 0
ClausesAreDecided = (g : Ground) (i : Initial) (target : Lit) → AreProper g i → target.atom.0 < length g.atoms → (cs : List (List Lit)) × AreClausesFor g.actions (length g.atoms) i target cs

-- some literals are the targets
abbrev pub TargetsAreDecided : Type 0
TargetsAreDecided = (g : Ground) → (ls : List Lit) × AreTargets g ls

-- some test tells which tags are consistent, clauses have tags, and tags meet clauses or don't
pub record TellsOfTags (i : Initial) : Type 0 where
  pub test : List Lit → Bool
  pub tells : TellsConsistent i test
  pub tags : (clauses : List (List Lit)) → (tags : List (List Lit)) × AreTagsOfClauses i clauses tags
  pub meeting : (tags clauses : List (List Lit)) → AllMeet i tags clauses ⊎ (AllMeet i tags clauses → ⊥)

-- it is so of a formula over finitely many atoms
abbrev pub TagsAreDecided : Type 0
TagsAreDecided = (n : ℕ) (i : Initial) → IsOfAtoms n i → TellsOfTags i

-- tags cover a literal of a ground atom, or don't
abbrev pub CoversAreDecided : Type 0
CoversAreDecided = (g : Ground) (i : Initial) (tags : List (List Lit)) (target : Lit) → AreProper g i → target.atom.0 < length g.atoms → Covers g i tags target ⊎ (Covers g i tags target → ⊥)

-- some literals are the targets that a table leaves uncovered
abbrev pub CoveragesAreDecided : Type 0
CoveragesAreDecided = (g : Ground) (i : Initial) (table : TagTable) → AreProper g i → (ls : List Lit) × AreUncovered g i table ls

-- some merges are those of a mode, or the mode is refused
abbrev pub ModesAreDecided : Type 0
ModesAreDecided = (mode : Mode) (limit : ℕ) (g : Ground) (i : Initial) → AreProper g i → ((ms : List FileMerge) × AreMergesOf limit g i (way_of mode) ms) ⊎ ((r : Refused) × RefusesMode limit g i (way_of mode) r)

-- a table that leaves no target uncovered is complete
abbrev pub TablesWithNoneAreComplete : Type 0
TablesWithNoneAreComplete = (g : Ground) (i : Initial) (table : TagTable) → AreProper g i → AreUncovered g i table [] → IsComplete g i table

-- some table is that of a mode, or there is a refusal
abbrev pub MadeTablesAreDecided : Type 0
MadeTablesAreDecided = (mode : Mode) (limits : Limits) (g : Ground) (i : Initial) → AreProper g i → ((table : TagTable) × IsMade mode limits g i table) ⊎ ((r : Refused) × RefusesMade mode limits g i r)

-- a proper problem has a report on its width within any bound, or there is a refusal
abbrev pub WidthsAreDecided : Type 0
WidthsAreDecided = (limits : Limits) (bound : ℕ) (g : Ground) (i : Initial) → AreProper g i → ((report : WidthReport) × IsReport limits bound g i report) ⊎ ((r : Refused) × RefusesWidth limits bound g i r)

-- each target of a proper problem has a width, of at most the number of the clauses that are relevant to it
abbrev pub TargetsHaveWidths : Type 0
TargetsHaveWidths = (g : Ground) (i : Initial) → AreProper g i → (target : Lit) → IsTarget g target → HasSomeWidth g i target
