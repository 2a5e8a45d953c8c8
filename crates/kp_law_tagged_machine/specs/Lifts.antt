-- A list of actions is lifted: before each action and behind the last, each merge is put in that is allowed and adds something.
use Rattle.std.specs.Prelude.{◌≡◌, ◌≤◌, ◌<◌, ℕ, suc, Bool, true, not, ◌&&◌, if◌then◌else◌, List, [], ◌∷◌, ◌++◌, Some, length, take, slice_get}
use Rattle.std.specs.List.{list_all}
use Rattle.kp_base.specs.declared.lit.Lit.{Lit}
use Rattle.kp_base.specs.declared.ground.Ground.{Ground}
use Rattle.kp_base.specs.declared.ground.TagTable.{TagTable}
use Rattle.kp_base.specs.declared.ground.Merge.{Merge}
use Rattle.kp_base.specs.Steps.{asked, IsLeastMissing}
use Rattle.kp_base.specs.Machine.{Known, MachineStep, start, may_merge, after_merge, after_act}

-- ---- merges

-- the merge is allowed, and its target isn't known yet
abbrev pub adds : Merge → Known → Bool
adds m k = may_merge (Some m) k && not (k 0 m.target)

-- what is known after some merges in turn, of which those are taken that add something
abbrev pub after_merges : List Merge → Known → Known
after_merges [] k = k
after_merges (m ∷ ms) k = after_merges ms (if adds m k then after_merge (Some m) k else k)

-- those that are taken, where the first of all has number n
abbrev pub merges_taken : ℕ → List Merge → Known → List MachineStep
merges_taken n [] k = []
merges_taken n (m ∷ ms) k = if adds m k then MachineStep.merge n ∷ merges_taken (suc n) ms (after_merge (Some m) k) else merges_taken (suc n) ms k

-- ---- lists of actions

-- what is known after some actions from some knowledge on, with the merges taken before each and behind the last
abbrev pub known_lifted_from : Ground → TagTable → Known → List ℕ → Known
known_lifted_from g table k [] = after_merges table.merges k
known_lifted_from g table k (n ∷ ns) = known_lifted_from g table (after_act (slice_get g.actions n) (after_merges table.merges k)) ns

-- from the start on
abbrev pub known_lifted : Ground → TagTable → List ℕ → Known
known_lifted g table ns = known_lifted_from g table (start table) ns

-- the actions with the merges
abbrev pub lift_from : Ground → TagTable → Known → List ℕ → List MachineStep
lift_from g table k [] = merges_taken 0 table.merges k
lift_from g table k (n ∷ ns) = merges_taken 0 table.merges k ++ MachineStep.act n ∷ lift_from g table (after_act (slice_get g.actions n) (after_merges table.merges k)) ns

abbrev pub lift_of : Ground → TagTable → List ℕ → List MachineStep
lift_of g table ns = lift_from g table (start table) ns

-- ---- where lifting fails

-- what is asked before the step of this number, or at the goal, is known
abbrev pub is_ready : Ground → TagTable → List ℕ → ℕ → Bool
is_ready g table ns k = list_all (known_lifted g table (take k ns) 0) (asked g (slice_get ns k))

-- step k, or the goal, is the first that isn't ready, and l is the least literal asked there that isn't known
pub record UnliftedAt (g : Ground) (table : TagTable) (ns : List ℕ) (k : ℕ) (l : Lit) : Type 0 where
  pub in_range : k ≤ length ns
  pub before : (j : ℕ) → j < k → is_ready g table ns j ≡ true
  pub unknown : IsLeastMissing (known_lifted g table (take k ns) 0) (asked g (slice_get ns k)) l
