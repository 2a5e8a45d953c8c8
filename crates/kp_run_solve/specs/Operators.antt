-- The operators of the task of a ground problem and a table, by number. This file serves the crate's own functions and proofs.
use Rattle.std.specs.Prelude.{◌≡◌, ◌-◌, ℕ, true, if◌then◌else◌, List, Some, length, map, filter, nat_lt}
use Rattle.std.specs.List.{list_all}
use Rattle.kp_base.specs.declared.ground.Ground.{Ground}
use Rattle.kp_base.specs.declared.ground.GroundName.{GroundName}
use Rattle.kp_base.specs.Machine.{MachineStep}
use Rattle.kp_base.specs.ActionNames.{action_name}
use Rattle.kp_search.specs.declared.found.Found.{Found}
use Rattle.kp_search.specs.declared.found.Found.TheVariants.{Plan, NoPlan, Spent}

-- the step of the machine that an operator does
abbrev pub step_of : Ground → ℕ → MachineStep
step_of g n = if nat_lt n (length g.actions) then MachineStep.act n else MachineStep.merge (n - length g.actions)

-- the operators that are actions
abbrev pub acts_among : ℕ → List ℕ → List ℕ
acts_among actions ops = filter (λ n. nat_lt n actions) ops

-- these are the names of the actions among operators
abbrev pub NameActions : Ground → List ℕ → List GroundName → Type 0
NameActions g ops names = map (action_name g) (acts_among (length g.actions) ops) ≡ map Some names

-- the operators of a plan are those of so many
abbrev pub IsInside : ℕ → Found → Type 0
IsInside n (Plan ops k) = list_all (λ m. nat_lt m n) ops ≡ true
IsInside n NoPlan = Unit {0}
IsInside n (Spent k) = Unit {0}
