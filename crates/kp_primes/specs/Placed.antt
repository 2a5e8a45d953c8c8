-- The places of the clauses that have a literal. This file serves proofs alone.
use Rattle.std.specs.Prelude.{◌≡◌, ◌+◌, ℕ, Bool, true, cond, List, [], ◌∷◌, Option, None, Some, slice_get, fold, length, nat_lt}
use Rattle.std.specs.List.{list_any}
use Rattle.kp_base.specs.declared.lit.Lit.{Lit}
use Rattle.kp_base.specs.Planning.{code_of, IsClosure}
use Rattle.kp_base.specs.Steps.{has}
use Rattle.kp_base.specs.Implicates.{is_within}
use Rattle.kp_clauses.specs.Listed.{row}
use Rattle.kp_clauses.specs.Sieved.{stands}
use Rattle.kp_primes.specs.Included.{met}
use Rattle.kp_primes.specs.Held.{Held, formula, AreWhole}

-- counted from i
abbrev pub places : Lit → ℕ → List (List Lit) → List ℕ
places l i [] = []
places l i (c ∷ cs) = cond (has c l) (i ∷ places l (i + 1) cs) (places l (i + 1) cs)

-- for each literal, in the list of its code, the places of the clauses that have it
pub record AreHolders (lists : List (List ℕ)) (cs : List (List Lit)) : Type 0 where
  pub each : (l : Lit) → row lists (code_of l) ≡ places l 0 cs

-- what stands beside the prime implicates: the places of those that have a literal, and the closure of the empty tag
pub record AreReady (h : Held) (lists : List (List ℕ)) (known : List Lit) : Type 0 where
  pub whole : AreWhole h
  pub holders : AreHolders lists h.clauses
  pub always : IsClosure h.atoms (formula h) [] known

-- a new clause is resolved with the prime implicate at a place
abbrev pub met_one : List (List Lit) → List (List Lit) → List Lit → Lit → Option (List Lit) → List (List Lit) → List (List Lit)
met_one ps es e l None fs = fs
met_one ps es e l (Some p) fs = met ps es e l p fs

-- and with those at these places
abbrev pub met_at : List (List Lit) → List (List Lit) → List Lit → Lit → List ℕ → List (List Lit) → List (List Lit)
met_at ps es e l [] fs = fs
met_at ps es e l (i ∷ rest) fs = met_at ps es e l rest (met_one ps es e l (slice_get ps i) fs)

-- a clause is within the one at a place
abbrev pub within_at : List Lit → Option (List Lit) → Bool
within_at c p = stands (is_within c) p

-- the one of two literals that fewer clauses have
abbrev pub rarer : List (List ℕ) → Lit → Lit → Lit
rarer lists a b = cond (nat_lt (length (row lists (code_of b))) (length (row lists (code_of a)))) b a

-- it is within one of those that have the literal of it that fewest have; the empty clause, which has no first literal, is within each
abbrev pub held_at : List (List Lit) → List (List ℕ) → List Lit → Option Lit → Bool
held_at cs lists c None = true
held_at cs lists c (Some l) = list_any (λ i. within_at c (slice_get cs i)) (row lists (code_of (fold (rarer lists) l c)))
