-- Where steps fail from a state: at the first step whose precondition isn't met, or else at the goal; and the least literal there that is false.
use Rattle.std.specs.Prelude.{◌≡◌, ◌≤◌, ℕ, true, false, List, length, take, slice_get}
use Rattle.kp_base.specs.declared.lit.Lit.{Lit}
use Rattle.kp_base.specs.declared.ground.Ground.{Ground}
use Rattle.kp_base.specs.Steps.{State, holds, IsLeastMissing, runs, succeeds, state_after, asked}

-- the first k steps are applicable in their turn, and then the literal is the least that is false of what must hold
pub record FailAt (g : Ground) (s : State) (ns : List ℕ) (k : ℕ) (l : Lit) : Type 0 where
  pub in_range : k ≤ length ns
  pub reached : runs g s (take k ns) ≡ true
  pub fails : IsLeastMissing (holds (state_after g s (take k ns))) (asked g (slice_get ns k)) l

-- ---- laws

-- steps that fail somewhere don't succeed
abbrev pub IsFailing : Type 0
IsFailing = (g : Ground) (s : State) (ns : List ℕ) (k : ℕ) (l : Lit) → FailAt g s ns k l → succeeds g s ns ≡ false

-- from one state they fail in one place, and one literal is told
abbrev pub IsFailingOnce : Type 0
IsFailingOnce = (g : Ground) (s : State) (ns : List ℕ) (k j : ℕ) (l m : Lit) → FailAt g s ns k l → FailAt g s ns j m → (k ≡ j) × (l ≡ m)
