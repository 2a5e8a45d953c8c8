-- The merges of a mode. A target that the empty tag doesn't cover has the tags of the first of the least sets of its relevant clauses that cover it; where none does, a merge for each clause, or one of all assignments. (Palacios and Geffner, JAIR 35, 2009.)
use Rattle.std.specs.Prelude.{◌≡◌, ◌≤◌, ◌<◌, ◌+◌, ◌++◌, ℕ, Bool, true, false, List, [], ◌∷◌, Option, Some, None, length, map}
use Rattle.kp_base.specs.declared.lit.Lit.{Lit}
use Rattle.kp_base.specs.declared.ground.Ground.{Ground}
use Rattle.kp_base.specs.declared.ground.Initial.{Initial}
use Rattle.kp_base.specs.declared.limits.Mode.{Mode}
use Rattle.kp_base.specs.declared.limits.Mode.TheVariants.{K0, K1, K2, K3, Models, Auto}
use Rattle.kp_base.specs.Lists.{Member}
use Rattle.kp_base.specs.Covering.{AreTagsOfClauses, AllMeet}
use Rattle.kp_base.specs.Relevance.{AreClausesFor}
use Rattle.kp_cover_subsets.specs.Subsets.{subsets, choose}
use Rattle.kp_cover.specs.Covering.{IsCover}
use Rattle.kp_cover.specs.Targets.{AreTargets}
use Rattle.kp_tags_files.specs.declared.merge.FileMerge.{FileMerge}
use Rattle.kp_tags_modes.specs.declared.way.Way.{Way}
use Rattle.kp_tags_modes.specs.Assignments.{AreAssignments}

-- ---- modes

-- what a mode does for a target: up to which size sets of clauses are tried, whether sizes with too many sets are skipped, and whether all assignments are taken where no set covers
abbrev pub way_of : Mode → Option Way
way_of K0 = None
way_of K1 = Some (record { greatest = 1; skips = false; by_models = false })
way_of K2 = Some (record { greatest = 2; skips = false; by_models = false })
way_of K3 = Some (record { greatest = 3; skips = false; by_models = false })
way_of Models = Some (record { greatest = 0; skips = true; by_models = true })
way_of Auto = Some (record { greatest = 3; skips = true; by_models = true })

-- the modes that take all assignments where no set covers, so that each target is covered
pub data CoversEach : Mode → Type 0 where
  models : CoversEach Models
  auto : CoversEach Auto

-- ---- sets of relevant clauses

-- the set of clauses covers them all: each of its tags entails a literal of each
abbrev pub IsCovering : Initial → List (List Lit) → List (List Lit) → Type 0
IsCovering i cs set = (tags : List (List Lit)) × IsCover i cs set tags

-- the first set of the list that covers
pub data IsFirstCovering (i : Initial) (cs : List (List Lit)) : List (List (List Lit)) → List (List Lit) → Type 0 where
  here : (set : List (List Lit)) (sets : List (List (List Lit))) → IsCovering i cs set → IsFirstCovering i cs (set ∷ sets) set
  later : (other set : List (List Lit)) (sets : List (List (List Lit))) → (IsCovering i cs other → ⊥) → IsFirstCovering i cs sets set → IsFirstCovering i cs (other ∷ sets) set

-- at this size no set is found: none covers; or there are too many, and the size is skipped
pub data IsPassed (way : Way) (limit : ℕ) (i : Initial) (cs : List (List Lit)) (size : ℕ) : Type 0 where
  none_covers : choose (length cs) size ≤ limit → ((set : List (List Lit)) → Member (subsets size cs) set → IsCovering i cs set → ⊥) → IsPassed way limit i cs size
  skipped : limit < choose (length cs) size → way.skips ≡ true → IsPassed way limit i cs size

-- nor at any size from 1 on, below this one
abbrev pub ArePassed : Way → ℕ → Initial → List (List Lit) → ℕ → Type 0
ArePassed way limit i cs size = (v : ℕ) → 1 ≤ v → v < size → IsPassed way limit i cs v

-- the first set that covers, of the least size at which one is found
pub record IsLeastCover (way : Way) (limit : ℕ) (i : Initial) (cs set : List (List Lit)) : Type 0 where
  pub in_range : (1 ≤ length set) × (length set ≤ way.greatest)
  pub few : choose (length cs) (length set) ≤ limit
  pub first : IsFirstCovering i cs (subsets (length set) cs) set
  pub least : ArePassed way limit i cs (length set)

-- the size is refused: it has too many sets, isn't skipped, and no smaller set covers
pub record IsRefusedAt (way : Way) (limit : ℕ) (i : Initial) (cs : List (List Lit)) (size : ℕ) : Type 0 where
  pub in_range : (1 ≤ size) × (size ≤ way.greatest)
  pub many : limit < choose (length cs) size
  pub stops : way.skips ≡ false
  pub least : ArePassed way limit i cs size

-- ---- the merges of a target, as lists of tags

-- one for each clause, in order
pub data AreOneForEach (i : Initial) : List (List Lit) → List (List (List Lit)) → Type 0 where
  done : AreOneForEach i [] []
  more : (c : List Lit) (cs tags : List (List Lit)) (merges : List (List (List Lit))) → AreTagsOfClauses i (c ∷ []) tags → AreOneForEach i cs merges → AreOneForEach i (c ∷ cs) (tags ∷ merges)

-- where no set covers: one for each clause, or one of all assignments
pub data AreOtherwise (i : Initial) (cs : List (List Lit)) : Bool → List (List (List Lit)) → Type 0 where
  for_each : (merges : List (List (List Lit))) → AreOneForEach i cs merges → AreOtherwise i cs false merges
  by_models : (tags : List (List Lit)) → AreAssignments i cs tags → AreOtherwise i cs true (tags ∷ [])

-- by the clauses that are relevant to the target: none where the empty tag covers; else one over the least cover, or where there is no cover, as above
pub data AreMergesBy (way : Way) (limit : ℕ) (i : Initial) (cs : List (List Lit)) : List (List (List Lit)) → Type 0 where
  empty_tag : AllMeet i ([] ∷ []) cs → AreMergesBy way limit i cs []
  least_cover : (set tags : List (List Lit)) → (AllMeet i ([] ∷ []) cs → ⊥) → IsLeastCover way limit i cs set → AreTagsOfClauses i set tags → AreMergesBy way limit i cs (tags ∷ [])
  otherwise : (merges : List (List (List Lit))) → (AllMeet i ([] ∷ []) cs → ⊥) → ArePassed way limit i cs (way.greatest + 1) → AreOtherwise i cs way.by_models merges → AreMergesBy way limit i cs merges

-- the merges of a target
pub record AreMergesFor (way : Way) (limit : ℕ) (g : Ground) (i : Initial) (target : Lit) (merges : List (List (List Lit))) : Type 0 where
  pub clauses : List (List Lit)
  pub are_clauses : AreClausesFor g.actions (length g.atoms) i target clauses
  pub by_clauses : AreMergesBy way limit i clauses merges

-- ---- all merges

-- a merge of the target with these tags
abbrev pub merge_of : Lit → List (List Lit) → FileMerge
merge_of target tags = record { target = target; tags = tags }

-- those of the first target, then those of the next, and so on
pub data AreMergesInTurn (way : Way) (limit : ℕ) (g : Ground) (i : Initial) : List Lit → List FileMerge → Type 0 where
  done : AreMergesInTurn way limit g i [] []
  more : (target : Lit) (targets : List Lit) (merges : List (List (List Lit))) (ms : List FileMerge) → AreMergesFor way limit g i target merges → AreMergesInTurn way limit g i targets ms
      → AreMergesInTurn way limit g i (target ∷ targets) (map (merge_of target) merges ++ ms)

-- the merges of a mode: `K0` has none; the others have those of each target in turn
pub data AreMergesOf (limit : ℕ) (g : Ground) (i : Initial) : Option Way → List FileMerge → Type 0 where
  none : AreMergesOf limit g i None []
  of_targets : (way : Way) (targets : List Lit) (ms : List FileMerge) → AreTargets g targets → AreMergesInTurn way limit g i targets ms → AreMergesOf limit g i (Some way) ms
