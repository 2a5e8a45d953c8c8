-- The implicates of an initial formula, its prime implicates, and when there are more of them than a limit.
use Rattle.std.specs.Prelude.{◌≡◌, ◌↔◌, ◌<◌, ◌≤◌, ◌&&◌, ℕ, Bool, true, false, List, [], ◌∷◌, length, take, nat_lt}
use Rattle.std.specs.List.{list_any, list_all}
use Rattle.std.specs.List.Sorted.{IsSorted}
use Rattle.kp_base.specs.declared.lit.Lit.{Lit}
use Rattle.kp_base.specs.declared.ground.Effect.{Effect}
use Rattle.kp_base.specs.declared.ground.Action.{Action}
use Rattle.kp_base.specs.declared.ground.Ground.{Ground}
use Rattle.kp_base.specs.declared.ground.Initial.{Initial}
use Rattle.kp_base.specs.Lists.{Member}
use Rattle.kp_base.specs.LitSet.{IsAscending, lits_cmp, is_opposed}
pub use Rattle.kp_base.specs.LitSet.{is_within}
use Rattle.kp_base.specs.Steps.{State, holds, is_model}

-- ---- clauses

-- the clause has a literal and its negation
abbrev pub is_tautology : List Lit → Bool
is_tautology c = is_opposed c c

-- the formula of these clauses alone
abbrev pub formula_of : List (List Lit) → Initial
formula_of cs = record { clauses = cs; closed = [] }

-- each literal is of one of the first n atoms
abbrev pub are_below : ℕ → List Lit → Bool
are_below n ls = list_all (λ l. nat_lt l.atom.0 n) ls

-- each literal of the clauses, and each closed atom, is of one of the first n atoms
pub record IsOfAtoms (n : ℕ) (i : Initial) : Type 0 where
  pub clauses : list_all (are_below n) i.clauses ≡ true
  pub closed : list_all (λ p. nat_lt p.0 n) i.closed ≡ true

-- ---- ground problems

-- each literal of an effect is of one of the first n atoms
abbrev pub effect_below : ℕ → Effect → Bool
effect_below n e = nat_lt e.result.atom.0 n && are_below n e.cond

-- each literal of an action is
abbrev pub action_below : ℕ → Action → Bool
action_below n a = are_below n a.pre && list_all (effect_below n) a.effects

-- each literal of the ground problem is of one of its atoms, and a `u32` counts atoms and actions
pub record IsOfItsAtoms (g : Ground) : Type 0 where
  pub few_atoms : length g.atoms < 2147483648
  pub few_actions : length g.actions < 2147483648
  pub actions : list_all (action_below (length g.atoms)) g.actions ≡ true
  pub goal : are_below (length g.atoms) g.goal ≡ true

-- ---- implicates

-- the clause is no tautology, and holds in each model
pub record IsImplicate (i : Initial) (c : List Lit) : Type 0 where
  pub proper : is_tautology c ≡ false
  pub holds_always : (s : State) → is_model i s ≡ true → list_any (holds s) c ≡ true

-- an implicate, as an ascending list, of which no proper subset is one
pub record IsPrime (i : Initial) (c : List Lit) : Type 0 where
  pub ascending : IsAscending c
  pub implicate : IsImplicate i c
  pub least : (d : List Lit) → IsImplicate i d → is_within d c ≡ true → is_within c d ≡ true

-- no element stands twice
abbrev pub IsOnce : {X : Type 0} → List X → Type 0
IsOnce [] = Unit {0}
IsOnce (x ∷ xs) = (Member xs x → ⊥) × IsOnce xs

-- just the prime implicates, each once
pub record ListsPrimes (i : Initial) (cs : List (List Lit)) : Type 0 where
  pub exact : (c : List Lit) → Member cs c ↔ IsPrime i c
  pub once : IsOnce cs

-- and in order
pub record ArePrimes (i : Initial) (cs : List (List Lit)) : Type 0 where
  pub primes : ListsPrimes i cs
  pub in_order : IsSorted lits_cmp cs

-- ---- how many there are

-- more than the limit
pub record HasMorePrimes (i : Initial) (limit : ℕ) : Type 0 where
  pub listed : List (List Lit)
  pub primes : ListsPrimes i listed
  pub more : limit < length listed

-- no more than the limit
pub record HasAtMostPrimes (i : Initial) (limit : ℕ) : Type 0 where
  pub listed : List (List Lit)
  pub primes : ListsPrimes i listed
  pub at_most : length listed ≤ limit

-- no formula has both more than a limit and no more
abbrev pub IsLimitExact : Type 0
IsLimitExact = (i : Initial) (limit : ℕ) → HasMorePrimes i limit → HasAtMostPrimes i limit → ⊥

-- the first k clauses of a formula, without its closed atoms
abbrev pub prefix_of : Initial → ℕ → Initial
prefix_of i k = formula_of (take k i.clauses)

-- k is the least number for which the first k clauses, closed atoms left aside, have more than the limit; the program adds clauses one by one
pub record IsLeastOver (i : Initial) (limit k : ℕ) : Type 0 where
  pub in_range : k ≤ length i.clauses
  pub more : HasMorePrimes (prefix_of i k) limit
  pub least : (j : ℕ) → j < k → HasAtMostPrimes (prefix_of i j) limit

-- no number of first clauses has more than the limit
pub record IsNeverOver (i : Initial) (limit : ℕ) : Type 0 where
  pub each : (k : ℕ) → k ≤ length i.clauses → HasAtMostPrimes (prefix_of i k) limit
