-- What is proved of lifted lists, and of complete tables.
use Rattle.std.specs.Prelude.{◌≡◌, ◌⊎◌, ◌<◌, ℕ, true, false, List, length}
use Rattle.kp_base.specs.declared.lit.Lit.{Lit}
use Rattle.kp_base.specs.declared.ground.Ground.{Ground}
use Rattle.kp_base.specs.declared.ground.Initial.{Initial}
use Rattle.kp_base.specs.declared.ground.TagTable.{TagTable}
use Rattle.kp_base.specs.Planning.{Member, IsOfItsAtoms, IsGroundPlan, HasModel, IsTable, IsComplete, MachineStep, accepts, stripped}
use Rattle.kp_law_tagged_machine.specs.Lifts.{lift_of, UnliftedAt}

-- ---- lifted lists

-- without its merges, the lifted list is what was lifted
abbrev pub LiftedListsStrip : Type 0
LiftedListsStrip = (g : Ground) (table : TagTable) (ns : List ℕ) → stripped (lift_of g table ns) ≡ ns

-- it is accepted where any list of steps is that strips to the same
abbrev pub LiftedListsAreBest : Type 0
LiftedListsAreBest = (g : Ground) (table : TagTable) (steps : List MachineStep) → accepts g table steps ≡ true → accepts g table (lift_of g table (stripped steps)) ≡ true

-- each action has its number
pub record AreActions (g : Ground) (ns : List ℕ) : Type 0 where
  pub each : (n : ℕ) → Member ns n → n < length g.actions

-- actions that are there lift, or fail somewhere
abbrev pub ListsLiftOrFail : Type 0
ListsLiftOrFail = (g : Ground) (table : TagTable) (ns : List ℕ) → AreActions g ns → (accepts g table (lift_of g table ns) ≡ true) ⊎ ((k : ℕ) × (l : Lit) × UnliftedAt g table ns k l)

-- where they fail, no list of steps that strips to them is accepted
abbrev pub FailingListsDontLift : Type 0
FailingListsDontLift = (g : Ground) (table : TagTable) (steps : List MachineStep) (k : ℕ) (l : Lit) → UnliftedAt g table (stripped steps) k l → accepts g table steps ≡ false

-- they fail in one place, and one literal is told
abbrev pub ListsFailOnce : Type 0
ListsFailOnce = (g : Ground) (table : TagTable) (ns : List ℕ) (k j : ℕ) (l m : Lit) → UnliftedAt g table ns k l → UnliftedAt g table ns j m → (k ≡ j) × (l ≡ m)

-- ---- complete tables

-- Where there is a model, and the table is right and complete, each plan of the ground problem lifts. (Palacios and Geffner, JAIR 35, 2009.)
abbrev pub NoPlanIsLost : Type 0
NoPlanIsLost = (g : Ground) (i : Initial) (table : TagTable) → IsOfItsAtoms g → HasModel i → IsTable g i table → IsComplete g i table → (ns : List ℕ) → IsGroundPlan g i ns → accepts g table (lift_of g table ns) ≡ true
