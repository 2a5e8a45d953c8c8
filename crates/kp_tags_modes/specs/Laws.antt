-- Laws of the merges of modes.
use Rattle.std.specs.Prelude.{◌≡◌, ℕ, true, List, [], ◌∷◌, length}
use Rattle.std.specs.List.{list_all}
use Rattle.kp_base.specs.declared.lit.Lit.{Lit}
use Rattle.kp_base.specs.declared.ground.Ground.{Ground}
use Rattle.kp_base.specs.declared.ground.Initial.{Initial}
use Rattle.kp_base.specs.declared.limits.Mode.{Mode}
use Rattle.kp_base.specs.declared.limits.Mode.TheVariants.{Models, Auto}
use Rattle.kp_base.specs.declared.refused.Refused.{Refused}
use Rattle.kp_base.specs.Planning.{Member, IsTarget, IsConsistent, HaveSameModels, are_below, IsOfItsAtoms}
use Rattle.kp_base.specs.Covering.{Covers}
use Rattle.kp_cover.specs.Valid.{AreValidTags}
use Rattle.kp_tags_files.specs.declared.merge.FileMerge.{FileMerge}
use Rattle.kp_tags_modes.specs.Modes.{way_of, CoversEach, AreMergesOf}
use Rattle.kp_tags_modes.specs.Answers.{RefusesMode}

-- ---- the merges are right

-- the merge has a target, consistent tags of the ground problem's atoms, and is valid
pub record IsGoodMerge (g : Ground) (i : Initial) (m : FileMerge) : Type 0 where
  pub target : IsTarget g m.target
  pub consistent : (tag : List Lit) → Member m.tags tag → IsConsistent i tag
  pub valid : AreValidTags i m.tags
  pub of_atoms : list_all (are_below (length g.atoms)) m.tags ≡ true

-- each merge of a mode is so
abbrev pub MergesOfModesAreGood : Type 0
MergesOfModesAreGood = (mode : Mode) (limit : ℕ) (g : Ground) (i : Initial) (ms : List FileMerge) → IsOfItsAtoms g → AreMergesOf limit g i (way_of mode) ms → (m : FileMerge) → Member ms m → IsGoodMerge g i m

-- ---- which modes cover each target

-- the empty tag covers the target, or the tags of one of these merges do, which is a merge of it
pub data IsCoveredBy (g : Ground) (i : Initial) (ms : List FileMerge) (target : Lit) : Type 0 where
  by_empty_tag : Covers g i ([] ∷ []) target → IsCoveredBy g i ms target
  by_merge : (m : FileMerge) → Member ms m → m.target ≡ target → Covers g i m.tags target → IsCoveredBy g i ms target

-- by the merges of `Models`, and by those of `Auto`, each target is so, whatever the limit
abbrev pub SomeModesCoverEach : Type 0
SomeModesCoverEach = (mode : Mode) (limit : ℕ) (g : Ground) (i : Initial) (ms : List FileMerge) → CoversEach mode → AreMergesOf limit g i (way_of mode) ms → (l : Lit) → IsTarget g l → IsCoveredBy g i ms l

-- ---- there is one answer

-- two answers by a mode are the same: the same merges, or the same refusal
pub record HasOneAnswer (mode : Mode) (limit : ℕ) (g : Ground) (i j : Initial) : Type 0 where
  pub merges : (ms ns : List FileMerge) → AreMergesOf limit g i (way_of mode) ms → AreMergesOf limit g j (way_of mode) ns → ms ≡ ns
  pub refusals : (r s : Refused) → RefusesMode limit g i (way_of mode) r → RefusesMode limit g j (way_of mode) s → r ≡ s
  pub never_both : (ms : List FileMerge) (r : Refused) → AreMergesOf limit g i (way_of mode) ms → RefusesMode limit g j (way_of mode) r → ⊥

-- so it is with the formulas that have the same models
abbrev pub ModesHaveOneAnswer : Type 0
ModesHaveOneAnswer = (mode : Mode) (limit : ℕ) (g : Ground) (i j : Initial) → HaveSameModels i j → HasOneAnswer mode limit g i j

-- ---- what is never refused

-- all assignments, and `Auto`
pub record AreNeverRefused (limit : ℕ) (g : Ground) (i : Initial) (r : Refused) : Type 0 where
  pub models : RefusesMode limit g i (way_of Models) r → ⊥
  pub auto : RefusesMode limit g i (way_of Auto) r → ⊥

abbrev pub SomeModesAreNeverRefused : Type 0
SomeModesAreNeverRefused = (limit : ℕ) (g : Ground) (i : Initial) (r : Refused) → AreNeverRefused limit g i r
