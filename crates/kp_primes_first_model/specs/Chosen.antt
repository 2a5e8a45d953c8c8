-- How far the choice of the first state that passes has come. This file serves proofs alone.
use Rattle.std.specs.Prelude.{◌≡◌, ◌≤◌, ℕ, Bool, true, false, nat_lt, List}
use Rattle.std.specs.List.{list_all}
use Rattle.kp_base.specs.declared.lit.Lit.{Lit}
use Rattle.kp_base.specs.declared.lit.AtomId.{AtomId}
use Rattle.kp_base.specs.declared.ground.Initial.{Initial}
use Rattle.kp_base.specs.Steps.{State, SameBelow, ComesBefore, holds}
use Rattle.kp_base.specs.Implicates.{are_below}
use Rattle.kp_primes_first_model.specs.Asked.{is_wanted, IsWitness}
use Rattle.kp_primes_first_model.specs.Ordered.{state_of_atoms, AreRising}

-- what stands after the first p atoms: a tag that says just which of them are present, a witness for it, and no model
-- that passes before it
pub record IsChosen (n p : ℕ) (i : Initial) (passes : State → Bool) (tag found : List Lit) (present : List AtomId) : Type 0 where
  pub below : are_below n tag ≡ true
  pub witness : IsWitness n i passes tag found
  pub agrees : (s : State) → list_all (holds s) tag ≡ true → SameBelow p s (state_of_atoms present)
  pub met : (s : State) → SameBelow p s (state_of_atoms present) → list_all (holds s) tag ≡ true
  pub bounded : (q : ℕ) → p ≤ q → state_of_atoms present q ≡ false
  pub least : (t : State) → is_wanted i passes t ≡ true → ComesBefore t (state_of_atoms present) → ⊥
  pub in_range : list_all (λ q. nat_lt q.0 p) present ≡ true
  pub rising : AreRising present
