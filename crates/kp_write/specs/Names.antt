-- Which facts and operators have names that can be written.
use Rattle.std.specs.Prelude.{ℕ, List}
use Rattle.std.specs.List.{AllByRecursion}
use Rattle.kp_tree_grammar.specs.Words.{IsName, IsHead}
use Rattle.kp_write.specs.Operators.{Signed, Effect, Op}

-- a fact that can be written
abbrev pub IsSigned : Signed → Type 0
IsSigned s = IsHead s.fact

-- an effect of such facts
pub record IsEffect (e : Effect) : Type 0 where
  pub conds : AllByRecursion IsSigned e.conds
  pub result : IsSigned e.result

-- an operator that can be written
pub record IsOp (o : Op) : Type 0 where
  pub name : IsName o.name
  pub pre : AllByRecursion IsHead o.pre
  pub effects : AllByRecursion IsEffect o.effects

-- every fact of the list can be written
abbrev pub AreHeads : List (List ℕ) → Type 0
AreHeads facts = AllByRecursion IsHead facts

-- every operator of the list can be written
abbrev pub AreOps : List Op → Type 0
AreOps ops = AllByRecursion IsOp ops
