-- The prime implicates of an initial formula, as contracts see them.
use Rattle.std.specs.Prelude.{◌≡◌, ℕ, true, List}
use Rattle.kp_base.specs.declared.lit.Lit.{Lit}
use Rattle.kp_base.specs.declared.ground.Initial.{Initial}
use Rattle.kp_base.specs.Entailed.{HasModel}
use Rattle.kp_base.specs.Implicates.{formula_of, IsOfAtoms, IsImplicate, ArePrimes}
use Rattle.kp_clauses.specs.Stored.{subsumed}

-- the number of atoms, and the clauses
pub record Held : Type 0 where
  pub atoms : ℕ
  pub clauses : List (List Lit)

-- the formula that they stand for: its models are the initial states
abbrev pub formula : Held → Initial
formula h = formula_of h.clauses

-- the clauses are just their own prime implicates, one is within each implicate, and some state satisfies them
pub record AreWhole (h : Held) : Type 0 where
  pub of_atoms : IsOfAtoms h.atoms (formula h)
  pub primes : ArePrimes (formula h) h.clauses
  pub covers : (c : List Lit) → IsImplicate (formula h) c → subsumed h.clauses c ≡ true
  pub has_model : HasModel (formula h)
