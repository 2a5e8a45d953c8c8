-- The pairs that clauses deny, and how they come into a table. Beside proofs it serves the contracts that cite `denied`.
use Rattle.std.specs.Prelude.{◌≡◌, ◌≢◌, ◌<◌, ℕ, Bool, true, not, ◌&&◌, ◌||◌, List, [], ◌∷◌, nat_eq, nat_lt}
use Rattle.std.specs.List.{list_any}
use Rattle.kp_base.specs.declared.lit.Lit.{Lit}
use Rattle.kp_base.specs.Lit.{negative}
use Rattle.kp_base.specs.Implicates.{is_within}
use Rattle.kp_base.specs.Clashes.{Pairs}
use Rattle.kp_clash_exclusive.specs.Paired.{are_both, is_marked, IsSquare}

-- not both atoms are true
abbrev pub not_both : ℕ → ℕ → List Lit
not_both r s = negative r ∷ negative s ∷ []

-- the clause says so
abbrev pub denies : List Lit → Pairs
denies c r s = is_within c (not_both r s)

-- some clause does
abbrev pub denied : List (List Lit) → Pairs
denied cs r s = list_any (λ c. denies c r s) cs

-- the pair of two atoms alone
abbrev pub pair_of : ℕ → ℕ → Pairs
pair_of p q r s = are_both p q (r, s)

-- each pair with this atom
abbrev pub all_with : ℕ → Pairs
all_with p r s = nat_eq r p || nat_eq s p

-- each pair of this atom with one from a number on and below another
abbrev pub between : ℕ → ℕ → ℕ → Pairs
between p from to r s = (nat_eq r p && (not (nat_lt s from) && nat_lt s to)) || (nat_eq s p && (not (nat_lt r from) && nat_lt r to))

-- the pairs of a test that are two different numbers below n were marked, and no others
pub record IsMarkedWith (n : ℕ) (test : Pairs) (old new : List Bool) : Type 0 where
  pub square : IsSquare n new
  pub sound : (r s : ℕ) → is_marked n new r s ≡ true → (is_marked n old r s || test r s) ≡ true
  pub kept : (r s : ℕ) → is_marked n old r s ≡ true → is_marked n new r s ≡ true
  pub full : (r s : ℕ) → r < n → s < n → r ≢ s → test r s ≡ true → is_marked n new r s ≡ true
