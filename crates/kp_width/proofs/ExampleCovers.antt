-- Three cells of which one is full: one clause suffices for the first. Two atoms of which nothing is known, with an effect for each way in which they may be: two do.
use Rattle.std.proofs.Common.{zero, suc, false, List, [], ◌∷◌, inl, refl, arith}
use Rattle.kp_base.specs.declared.lit.Lit.{Lit}
use Rattle.kp_base.specs.Lit.{positive, negative}
use Rattle.kp_base.specs.Relevance.{either_value}
use Rattle.kp_cover_subsets.specs.Sizes.{ArePassed, IsLeast, HasTooMany}
use Rattle.kp_primes.specs.Held.{Held}
use Rattle.kp_cover.specs.Tested.{tells_cover}

-- ---- cells

abbrev one_full : Held
one_full = record {
  atoms = 3;
  clauses = (positive 0 ∷ positive 1 ∷ positive 2 ∷ []) ∷ (negative 0 ∷ negative 1 ∷ []) ∷ (negative 0 ∷ negative 2 ∷ []) ∷ (negative 1 ∷ negative 2 ∷ []) ∷ [];
}

-- what is relevant to the first cell, from which nothing leads on
abbrev of_cells : List (List Lit)
of_cells = (positive 0 ∷ positive 1 ∷ positive 2 ∷ []) ∷ either_value 1 ∷ (negative 1 ∷ negative 2 ∷ []) ∷ either_value 2 ∷ []

-- the empty tag doesn't suffice; that some cell is full does
one_clause : IsLeast (tells_cover one_full of_cells) 4 1000000 false 0 3 1 (0 ∷ [])
one_clause = record { in_range = (omega arith, omega arith); few = omega arith; first_one = refl; least = below }
  where
    below : ArePassed (tells_cover one_full of_cells) 4 1000000 false 0 1
    below zero from lt = inl (omega arith, refl)
    below (suc v) from lt = absurd (omega (arith, lt))

-- ---- ways

abbrev nothing_known : Held
nothing_known = record { atoms = 3; clauses = (negative 2 ∷ []) ∷ [] }

abbrev of_ways : List (List Lit)
of_ways = either_value 0 ∷ either_value 1 ∷ []

-- neither of the two clauses suffices
none_of_one : ArePassed (tells_cover nothing_known of_ways) 2 1000000 false 0 2
none_of_one zero from lt = inl (omega arith, refl)
none_of_one (suc zero) from lt = inl (omega arith, refl)
none_of_one (suc (suc v)) from lt = absurd (omega (arith, lt))

-- both together do
two_clauses : IsLeast (tells_cover nothing_known of_ways) 2 1000000 false 0 3 2 (0 ∷ 1 ∷ [])
two_clauses = record { in_range = (omega arith, omega arith); few = omega arith; first_one = refl; least = none_of_one }

-- where one set of a size is the limit, the two of size 1 are too many
one_set_alone : HasTooMany (tells_cover nothing_known of_ways) 2 1 false 0 3 1
one_set_alone = record { in_range = (omega arith, omega arith); many = omega arith; stops = refl; before = below }
  where
    below : ArePassed (tells_cover nothing_known of_ways) 2 1 false 0 1
    below zero from lt = inl (omega arith, refl)
    below (suc v) from lt = absurd (omega (arith, lt))
