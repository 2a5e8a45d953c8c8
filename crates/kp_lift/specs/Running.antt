-- What comes of running a list of actions with merges from some knowledge on. This file serves proofs alone.
use Rattle.std.specs.Prelude.{◌≡◌, ◌<◌, ◌≤◌, ◌+◌, ℕ, Bool, true, ◌&&◌, List, [], ◌∷◌, ◌++◌, Option, Some, None, map, length, take, slice_get}
use Rattle.std.specs.List.{list_all}
use Rattle.kp_base.specs.declared.lit.Lit.{Lit}
use Rattle.kp_base.specs.declared.ground.Ground.{Ground}
use Rattle.kp_base.specs.declared.ground.TagTable.{TagTable}
use Rattle.kp_base.specs.Steps.{asked, pre_of, IsLeastMissing}
use Rattle.kp_base.specs.Machine.{Known, may_act, after_act}
use Rattle.kp_lift_knowledge.specs.Known.{Table, Says}
use Rattle.kp_law_tagged_machine.specs.Lifts.{after_merges, merges_taken, known_lifted_from, lift_from}
use Rattle.kp_law_ktask.specs.Accepted.{op_number}
use Rattle.kp_lift.specs.declared.running.At.{At}

-- ---- from some knowledge on

-- what is known after the merges and one action
abbrev pub known_after : Ground → TagTable → Known → ℕ → Known
known_after g table k n = after_act (slice_get g.actions n) (after_merges table.merges k)

-- each action is allowed behind the merges before it, and the goal is known behind the last
abbrev pub lifts_from : Ground → TagTable → Known → List ℕ → Bool
lifts_from g table k [] = list_all (after_merges table.merges k 0) g.goal
lifts_from g table k (n ∷ ns) = may_act (slice_get g.actions n) (after_merges table.merges k) && lifts_from g table (known_after g table k n) ns

-- what is asked before the step of this number, or at the goal, is known
abbrev pub ready_from : Ground → TagTable → Known → List ℕ → ℕ → Bool
ready_from g table k ns j = list_all (known_lifted_from g table k (take j ns) 0) (asked g (slice_get ns j))

-- the actions fail here
pub record FailsFrom (g : Ground) (table : TagTable) (k : Known) (ns : List ℕ) (j : ℕ) (l : Lit) : Type 0 where
  pub in_range : j ≤ length ns
  pub before : (i : ℕ) → i < j → ready_from g table k ns i ≡ true
  pub unknown : IsLeastMissing (known_lifted_from g table k (take j ns) 0) (asked g (slice_get ns j)) l

-- the actions, the first of which is the i-th of a list, lift to more operators behind some; or they fail at a step of the list
abbrev pub EndsFrom : Ground → TagTable → Known → List ℕ → ℕ → List ℕ → List ℕ → Option At → Type 0
EndsFrom g table k ns i ops done None = (done ≡ ops ++ map (op_number g) (lift_from g table k ns)) × (lifts_from g table k ns ≡ true)
EndsFrom g table k ns i ops done (Some at) = (d : ℕ) × (at.step ≡ i + d) × FailsFrom g table k ns d at.literal

-- ---- what functions of the code make of a table of bits and some operators

-- the table of bits is of the tags and atoms
pub record IsAbout (g : Ground) (table : TagTable) (bits : Table) : Type 0 where
  pub tags : bits.tags ≡ length table.tags
  pub atoms : bits.atoms ≡ length g.atoms

-- the merges that add something are taken
pub record MergesTaken (g : Ground) (table : TagTable) (old : Table) (ops : List ℕ) (new : Table) (done : List ℕ) : Type 0 where
  pub known : (k : Known) → Says old k → Says new (after_merges table.merges k)
  pub operators : (k : Known) → Says old k → done ≡ ops ++ map (op_number g) (merges_taken 0 table.merges k)

-- the merges are taken, and then the action, which is allowed
pub record StepTaken (g : Ground) (table : TagTable) (n : ℕ) (k : Known) (ops : List ℕ) (new : Table) (done : List ℕ) : Type 0 where
  pub allowed : may_act (slice_get g.actions n) (after_merges table.merges k) ≡ true
  pub known : Says new (known_after g table k n)
  pub operators : done ≡ (ops ++ map (op_number g) (merges_taken 0 table.merges k)) ++ n ∷ []

-- a step is taken, or the literal is the least that isn't known where it is asked
abbrev pub StepEnds : Ground → TagTable → ℕ → Table → List ℕ → Table → List ℕ → Option Lit → Type 0
StepEnds g table n old ops new done None = (k : Known) → Says old k → StepTaken g table n k ops new done
StepEnds g table n old ops new done (Some l) = (k : Known) → Says old k → IsLeastMissing (after_merges table.merges k 0) (pre_of (slice_get g.actions n)) l

-- all steps are taken, or there is a step where a literal isn't known
abbrev pub ActionsEnd : Ground → TagTable → Table → List ℕ → List ℕ → List ℕ → Option At → Type 0
ActionsEnd g table old ns ops done at = (k : Known) → Says old k → EndsFrom g table k ns 0 ops done at

-- the last merges are taken and the goal is known, or the literal is the least of it that isn't
abbrev pub GoalEnds : Ground → TagTable → Table → List ℕ → List ℕ → Option Lit → Type 0
GoalEnds g table old ops done None = (k : Known) → Says old k → (done ≡ ops ++ map (op_number g) (merges_taken 0 table.merges k)) × (list_all (after_merges table.merges k 0) g.goal ≡ true)
GoalEnds g table old ops done (Some l) = (k : Known) → Says old k → IsLeastMissing (after_merges table.merges k 0) g.goal l
