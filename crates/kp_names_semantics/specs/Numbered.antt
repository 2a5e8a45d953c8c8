-- A problem by number, without where it lies in memory: numbers in place of the names of objects, predicates and variables.
use Rattle.std.specs.Prelude.{ℕ, Bool, List}
use Rattle.kp_names_semantics.specs.declared.lifted.Term.{Term}
use Rattle.kp_names_semantics.specs.declared.lifted.Range.{Range}
use Rattle.kp_names_semantics.specs.declared.lifted.Pred.{Pred}
use Rattle.kp_names_semantics.specs.declared.lifted.GroundLit.{GroundLit}
use Rattle.kp_names_semantics.specs.declared.lifted.Item.{Item}

-- a condition: a conjunction, an atom or its negation, an equality or its negation
mutual
  pub data Cond : Type 0 where
    all : Conds → Cond
    atom : Bool → ℕ → List Term → Cond
    same : Bool → Term → Term → Cond

  pub data Conds : Type 0 where
    no_cond : Conds
    more_conds : Cond → Conds → Conds

-- an effect: several together, one under a condition, one for all objects, an add or a delete
mutual
  pub data Eff : Type 0 where
    both : Effs → Eff
    when : Cond → Eff → Eff
    each : List Range → Eff → Eff
    makes : Bool → ℕ → List Term → Eff

  pub data Effs : Type 0 where
    no_eff : Effs
    more_effs : Eff → Effs → Effs

-- an action schema: its parameters have the numbers from 0 on
pub record Schema : Type 0 where
  pub name : List ℕ
  pub params : List Range
  pub pre : Cond
  pub effect : Eff

-- a problem by number; an object's number is its position in `objects`, and so with predicates and schemas
pub record Lifted : Type 0 where
  pub objects : List (List ℕ)
  pub predicates : List Pred
  pub schemas : List Schema
  pub init : List Item
  pub goal : List GroundLit
