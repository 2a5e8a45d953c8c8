-- From the pairs at the start to the exclusive pairs. This file serves proofs alone.
use Rattle.std.specs.Prelude.{◌≡◌, ◌≢◌, ◌<◌, ℕ, true, false, ◌&&◌, List}
use Rattle.kp_base.specs.declared.ground.Ground.{Ground}
use Rattle.kp_base.specs.declared.ground.Initial.{Initial}
use Rattle.kp_base.specs.Steps.{State, is_model}
use Rattle.kp_base.specs.Clashes.{Pairs}
use Rattle.kp_base.specs.Exclusive.{ArePairs, NeverAtTheStart}
use Rattle.kp_clash_exclusive.specs.Paired.{is_pair}
use Rattle.kp_clash_exclusive.specs.Settled.{stays}
use Rattle.kp_clash_exclusive.specs.Removed.{Shrinks}

-- just the pairs of atoms below this number that no initial state has together
pub record AreNeverTogether (i : Initial) (atoms : ℕ) (pairs : Pairs) : Type 0 where
  pub are_pairs : ArePairs atoms pairs
  pub never : NeverAtTheStart i pairs
  pub all : (p q : ℕ) → p < atoms → q < atoms → p ≢ q → ((s : State) → is_model i s ≡ true → (s p && s q) ≡ false) → pairs p q ≡ true

-- pairs were removed until each one stays
pub record IsSettled (g : Ground) (old new : List (ℕ × ℕ)) : Type 0 where
  pub shrinks : Shrinks g.actions old new
  pub settled : (p q : ℕ) → is_pair new p q ≡ true → stays g (is_pair new) p q ≡ true
