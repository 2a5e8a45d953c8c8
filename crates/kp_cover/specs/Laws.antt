-- Laws of covers and coverage.
use Rattle.std.specs.Prelude.{◌≡◌, ℕ, true, List, []}
use Rattle.std.specs.List.{list_all}
use Rattle.kp_base.specs.declared.lit.Lit.{Lit}
use Rattle.kp_base.specs.declared.ground.Action.{Action}
use Rattle.kp_base.specs.declared.ground.Ground.{Ground}
use Rattle.kp_base.specs.declared.ground.Initial.{Initial}
use Rattle.kp_base.specs.declared.ground.TagTable.{TagTable}
use Rattle.kp_base.specs.Planning.{Member, State, is_model, IsConsistent, are_below, IsCandidate, AreClausesFor, AreTagsOfClauses, IsComplete, AreUncovered}
use Rattle.kp_primes.specs.Held.{Held, formula, AreWhole}
use Rattle.kp_cover.specs.Coverage.{AnswersCoverage}
use Rattle.kp_cover.specs.Covering.{TellsCovers}
use Rattle.kp_cover.specs.declared.answer.Coverage.{Coverage}
use Rattle.kp_cover.specs.Tested.{tells_cover}
use Rattle.kp_cover.specs.Valid.{AreValidTags}

-- what `is_cover` answers tells at which places clauses stand whose tags meet all
abbrev pub CoversAreTold : Type 0
CoversAreTold = (h : Held) → AreWhole h → (cs : List (List Lit)) → TellsCovers (formula h) cs (tells_cover h cs)

-- the tags of clauses are valid, and each consistent
pub record AreGoodTags (i : Initial) (tags : List (List Lit)) : Type 0 where
  pub valid : AreValidTags i tags
  pub consistent : (t : List Lit) → Member tags t → IsConsistent i t

-- those of candidate clauses are
abbrev pub TagsOfCandidatesAreGood : Type 0
TagsOfCandidatesAreGood = (n : ℕ) (i : Initial) (cs tags : List (List Lit)) → ((c : List Lit) → Member cs c → IsCandidate n i c) → AreTagsOfClauses i cs tags → AreGoodTags i tags

-- under formulas with the same models, clauses have the same tags
abbrev pub IsCovOnce : Type 0
IsCovOnce = (i j : Initial) (cs a b : List (List Lit)) → ((s : State) → is_model i s ≡ is_model j s) → AreTagsOfClauses i cs a → AreTagsOfClauses j cs b → a ≡ b

-- the clauses that are relevant to a literal are of the atoms
abbrev pub RelevantClausesAreOfAtoms : Type 0
RelevantClausesAreOfAtoms = (h : Held) → AreWhole h → (acts : List Action) (target : Lit) (cs : List (List Lit)) → AreClausesFor acts h.atoms (formula h) target cs → list_all (are_below h.atoms) cs ≡ true

-- ---- tables

-- a table has one list of uncovered targets
abbrev pub AreUncoveredOnce : Type 0
AreUncoveredOnce = (g : Ground) (i : Initial) (table : TagTable) (a b : List Lit) → AreUncovered g i table a → AreUncovered g i table b → a ≡ b

-- a complete one has none
abbrev pub NoneAreUncoveredIfComplete : Type 0
NoneAreUncoveredIfComplete = (g : Ground) (i : Initial) (table : TagTable) (ls : List Lit) → AreUncovered g i table ls → IsComplete g i table → ls ≡ []

-- a table has one answer on its coverage
abbrev pub IsCoverageOnce : Type 0
IsCoverageOnce = (g : Ground) (i : Initial) (table : TagTable) (c d : Coverage) → AnswersCoverage g i table c → AnswersCoverage g i table d → c ≡ d
