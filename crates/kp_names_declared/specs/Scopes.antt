-- How the variables round a place are kept, with the numbers that their names had outside them. The view of `Scope` is `inward`; the rest serves proofs alone.
use Rattle.std.specs.Prelude.{◌≡◌, ℕ, List, [], ◌∷◌, map, reverse}
use Rattle.kp_names_semantics.specs.Names.{Name}
use Rattle.kp_names_semantics.specs.Numbering.{variable_number}
use Rattle.kp_names_declared.specs.Steps.{AreInnermost}
use Rattle.kp_names_declared.specs.declared.scope.Variable.{Variable}

-- the names of variables
abbrev pub names_of : List Variable → List Name
names_of vs = map (λ v. v.name.now) vs

-- the same in reverse: of variables that stand in the order in which they were entered, the innermost first
abbrev pub inward : List Variable → List Name
inward vs = names_of (reverse vs)

-- the innermost first: each knows the number that its name has outside it
pub data KnowOuter : List Variable → Type 0 where
  outside : KnowOuter []
  within : (v : Variable) (vs : List Variable) → v.before ≡ variable_number (names_of vs) v.name.now → KnowOuter vs → KnowOuter (v ∷ vs)

-- the entries have the numbers of the variables, and each knows what its name had before
pub record IsScope (vs : List Variable) (entries : List (Name × ℕ)) : Type 0 where
  pub innermost : AreInnermost (inward vs) entries
  pub outer : KnowOuter (reverse vs)
