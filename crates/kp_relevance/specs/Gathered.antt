-- Clauses as they are gathered, before they are put in order; and literals to which no other is relevant. This file serves proofs alone.
use Rattle.std.specs.Prelude.{◌≡◌, ℕ, Bool, true, not, ◌&&◌, ◌++◌, List, filter, map, length, nat_lt}
use Rattle.std.specs.List.{list_any, list_all, range_with_len}
use Rattle.kp_base.specs.declared.lit.Lit.{Lit}
use Rattle.kp_base.specs.Lit.{has}
use Rattle.kp_relevance.specs.Relevant.{is_pair}
use Rattle.kp_base.specs.Relevance.{either_value}

-- each literal of the clause is the first of a pair with the target
abbrev pub are_paired : List (Lit × Lit) → Lit → List Lit → Bool
are_paired pairs target c = list_all (λ l. is_pair pairs l target) c

-- so, and it has more than one
abbrev pub is_wanted : List (Lit × Lit) → Lit → List Lit → Bool
is_wanted pairs target c = nat_lt 1 (length c) && are_paired pairs target c

-- so, and none is known
abbrev pub is_unsettled : List (Lit × Lit) → List Lit → Lit → List Lit → Bool
is_unsettled pairs known target c = are_paired pairs target c && not (list_any (has known) c)

-- of the first n atoms
abbrev pub unsettled_below : List (Lit × Lit) → List Lit → Lit → ℕ → List (List Lit)
unsettled_below pairs known target n = filter (is_unsettled pairs known target) (map either_value (range_with_len 0 n))

-- all of them
abbrev pub gathered : List (Lit × Lit) → List (List Lit) → List Lit → Lit → ℕ → List (List Lit)
gathered pairs primes known target n = filter (is_wanted pairs target) primes ++ unsettled_below pairs known target n

-- no other literal is the first of a pair with the target
abbrev pub IsLone : List (Lit × Lit) → Lit → Type 0
IsLone pairs target = (l : Lit) → is_pair pairs l target ≡ true → l ≡ target
