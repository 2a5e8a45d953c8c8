-- What is answered on the merges of a mode.
use Rattle.std.specs.Prelude.{ℕ, List, [], ◌∷◌, Option, Some, Result, Ok, Err, length}
use Rattle.kp_base.specs.declared.lit.Lit.{Lit}
use Rattle.kp_base.specs.declared.ground.Ground.{Ground}
use Rattle.kp_base.specs.declared.ground.Initial.{Initial}
use Rattle.kp_base.specs.declared.limits.Mode.{Mode}
use Rattle.kp_base.specs.declared.refused.Stop.{Stop}
use Rattle.kp_base.specs.declared.refused.Stop.TheVariants as stops
use Rattle.kp_base.specs.declared.refused.Refused.{Refused}
use Rattle.kp_base.specs.declared.refused.Refused.TheVariants as refusals
use Rattle.kp_base.specs.Covering.{AllMeet}
use Rattle.kp_base.specs.Relevance.{AreClausesFor}
use Rattle.kp_cover.specs.Targets.{AreTargets}
use Rattle.kp_tags_files.specs.declared.merge.FileMerge.{FileMerge}
use Rattle.kp_tags_modes.specs.declared.way.Way.{Way}
use Rattle.kp_tags_modes.specs.Modes.{way_of, IsRefusedAt, AreMergesFor, AreMergesOf}

-- the target is refused at the size: the empty tag doesn't cover it, and there are too many sets
pub record IsTargetRefused (way : Way) (limit : ℕ) (g : Ground) (i : Initial) (target : Lit) (size : ℕ) : Type 0 where
  pub clauses : List (List Lit)
  pub are_clauses : AreClausesFor g.actions (length g.atoms) i target clauses
  pub uncovered : AllMeet i ([] ∷ []) clauses → ⊥
  pub refused : IsRefusedAt way limit i clauses size

-- the first refused target of these, and the size
pub data RefusesFirstTarget (way : Way) (limit : ℕ) (g : Ground) (i : Initial) : List Lit → Refused → Type 0 where
  here : (target : Lit) (targets : List Lit) (size : ℕ) → IsTargetRefused way limit g i target size → RefusesFirstTarget way limit g i (target ∷ targets) (refusals.SetsOver target size)
  later : (target : Lit) (targets : List Lit) (merges : List (List (List Lit))) (r : Refused) → AreMergesFor way limit g i target merges → RefusesFirstTarget way limit g i targets r → RefusesFirstTarget way limit g i (target ∷ targets) r

-- what a mode is refused for; `K0` never is
pub data RefusesMode (limit : ℕ) (g : Ground) (i : Initial) : Option Way → Refused → Type 0 where
  of_targets : (way : Way) (targets : List Lit) (r : Refused) → AreTargets g targets → RefusesFirstTarget way limit g i targets r → RefusesMode limit g i (Some way) r

-- what is answered
abbrev pub AnswersMode : Mode → ℕ → Ground → Initial → Result (List FileMerge) Stop → Type 0
AnswersMode mode limit g i (Ok ms) = AreMergesOf limit g i (way_of mode) ms
AnswersMode mode limit g i (Err (stops.Refused r)) = RefusesMode limit g i (way_of mode) r
AnswersMode mode limit g i (Err stops.Memory) = Unit {0}
