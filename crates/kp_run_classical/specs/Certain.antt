-- Formulas that leave nothing open but whether they have a model. This file serves proofs alone.
use Rattle.std.specs.Prelude.{◌≡◌, ◌<◌, ℕ, Bool, true, false, List, length, nat_eq, slice_index_or}
use Rattle.std.specs.List.{list_all}
use Rattle.kp_base.specs.declared.ground.Initial.{Initial}
use Rattle.kp_base.specs.Implicates.{IsOfAtoms}
use Rattle.kp_classic.specs.Grounded.{is_known}

-- the atoms that are marked
abbrev pub marked : List Bool → ℕ → Bool
marked marks p = slice_index_or marks p false

-- each clause is one literal
abbrev pub has_units : Initial → Bool
has_units i = list_all (λ c. nat_eq (length c) 1) i.clauses

-- each clause is one literal, and it is said of each of the first n atoms, and of no other, whether it holds
pub record SaysAtMostOneState (n : ℕ) (i : Initial) : Type 0 where
  pub of_atoms : IsOfAtoms n i
  pub units : has_units i ≡ true
  pub each_known : (p : ℕ) → p < n → is_known i p ≡ true
