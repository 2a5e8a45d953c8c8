-- A table of states of one task.
use Rattle.std.specs.Prelude.{◌≡◌, ℕ, Bool, true, false, List, [], ◌∷◌, ◌++◌}
use Rattle.kp_base.specs.Lists.{Member}
use Rattle.kp_classic.specs.States.{FactSet}

-- the number of facts, the states in the order in which they came in, and how many there is room for without more memory
pub record StateList : Type 0 where
  pub facts : ℕ
  pub states : List FactSet
  pub room : ℕ

-- a state more at the end, in the same room
abbrev pub with_state : StateList → FactSet → StateList
with_state t s = record { facts = t.facts; states = t.states ++ s ∷ []; room = t.room }

-- a state that isn't there comes in, and one that is there doesn't
abbrev pub Inserts : StateList → FactSet → Bool → StateList → Type 0
Inserts old s true new = (Member old.states s → ⊥) × (new ≡ with_state old s)
Inserts old s false new = Member old.states s × (new ≡ old)
