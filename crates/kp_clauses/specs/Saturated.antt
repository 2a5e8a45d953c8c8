-- Saturated lists of clauses: resolution brings nothing new.
use Rattle.std.specs.Prelude.{◌≡◌, ◌↔◌, ℕ, true, false, ◌||◌, List}
use Rattle.kp_base.specs.declared.lit.Lit.{Lit}
use Rattle.kp_base.specs.Planning.{Member, positive, negative, IsAscending, is_tautology, formula_of, IsOfAtoms, IsPrime}
use Rattle.kp_base.specs.Steps.{has}
use Rattle.kp_base.specs.Implicates.{is_within}
use Rattle.kp_clauses.specs.Resolved.{resolved}
use Rattle.kp_clauses.specs.Stored.{subsumed}

-- each resolvent of two of the clauses is a tautology, or one of the clauses is within it
pub record IsSaturated (cs : List (List Lit)) : Type 0 where
  pub each : (p : ℕ) (c d : List Lit) → Member cs c → Member cs d → has c (positive p) ≡ true → has d (negative p) ≡ true → (is_tautology (resolved c d (positive p)) || subsumed cs (resolved c d (positive p))) ≡ true

-- clauses of the first n atoms, as ascending lists, without tautologies, saturated, none within another
pub record IsSaturation (n : ℕ) (cs : List (List Lit)) : Type 0 where
  pub of_atoms : IsOfAtoms n (formula_of cs)
  pub sets : (c : List Lit) → Member cs c → IsAscending c
  pub proper : (c : List Lit) → Member cs c → is_tautology c ≡ false
  pub saturated : IsSaturated cs
  pub reduced : (c d : List Lit) → Member cs c → Member cs d → is_within c d ≡ true → is_within d c ≡ true

-- such clauses are just the prime implicates of these clauses
abbrev pub IsSaturationExact : Type 0
IsSaturationExact = (n : ℕ) (cs : List (List Lit)) → IsSaturation n cs → (c : List Lit) → Member cs c ↔ IsPrime (formula_of cs) c
