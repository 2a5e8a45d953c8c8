-- Operators by the names of their facts.
use Rattle.std.specs.Prelude.{ℕ, Bool, List}

-- a fact that holds, or doesn't, by name
pub record Signed : Type 0 where
  pub holds : Bool
  pub fact : List ℕ

-- an effect: where the conditions hold, the result holds after the step
pub record Effect : Type 0 where
  pub conds : List Signed
  pub result : Signed

-- an operator: its name, the facts that must hold, and its effects
pub record Op : Type 0 where
  pub name : List ℕ
  pub pre : List (List ℕ)
  pub effects : List Effect
