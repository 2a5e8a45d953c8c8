-- Prime implicates that compute, and formulas that meet the premises.
use Rattle.std.proofs.Common.{◌≡◌, ◌<◌, ◌≤◌, ℕ, zero, suc, true, List, [], ◌∷◌, refl, subst, inl, inr, take, length, arith}
use Rattle.std.proofs.lemmas.List.Sorted.{IsPermutation-reverse}
use Rattle.std.specs.List.Sorted.{IsSorted}
use Rattle.kp_base.specs.declared.lit.Lit.{Lit}
use Rattle.kp_base.specs.declared.ground.Initial.{Initial}
use Rattle.kp_base.specs.Lit.{positive, negative}
use Rattle.kp_base.specs.LitSet.{IsAscending, lits_cmp}
use Rattle.kp_base.specs.Implicates.{formula_of, IsOfAtoms}
use Rattle.kp_primes.specs.Included.{AreSets, AreCounted, IsPassedAt, included, all_included}
use Rattle.kp_primes.specs.Asked.{inconsistent, entailed_by}
use Rattle.kp_primes.specs.Held.{AreWhole}
use Rattle.kp_primes.proofs.Found.{IsFound, is_found}

-- ---- exactly one of three

abbrev one_of_three : List (List Lit)
one_of_three = (positive 0 ∷ positive 1 ∷ positive 2 ∷ []) ∷ (negative 0 ∷ negative 1 ∷ []) ∷ (negative 0 ∷ negative 2 ∷ []) ∷ (negative 1 ∷ negative 2 ∷ []) ∷ []

-- its clauses are its prime implicates
all_stay : all_included [] one_of_three ≡ one_of_three
all_stay = refl

of_three_atoms : IsOfAtoms 3 (formula_of one_of_three)
of_three_atoms = record { clauses = refl; closed = refl }

torn : inconsistent one_of_three (positive 0 ∷ positive 1 ∷ []) ≡ true
torn = refl

second_is_not : entailed_by one_of_three (positive 0 ∷ []) (negative 1) ≡ true
second_is_not = refl

-- where a closed atom is false, the clauses say less and more
one_closed : included one_of_three (negative 0 ∷ []) ≡ (negative 1 ∷ negative 2 ∷ []) ∷ (negative 0 ∷ []) ∷ (positive 1 ∷ positive 2 ∷ []) ∷ []
one_closed = refl

-- ---- a or b, and where a is so is c: three prime implicates

abbrev chained : List (List Lit)
chained = (positive 0 ∷ positive 1 ∷ []) ∷ (negative 0 ∷ positive 2 ∷ []) ∷ []

a_third : all_included [] chained ≡ (positive 0 ∷ positive 1 ∷ []) ∷ (negative 0 ∷ positive 2 ∷ []) ∷ (positive 1 ∷ positive 2 ∷ []) ∷ []
a_third = refl

chained_sets : AreSets chained
chained_sets c m = elim m [
  | inl e ↦ subst IsAscending e (omega arith, tt)
  | inr r ↦ elim r [ inl e ↦ subst IsAscending e (omega arith, tt) | inr bad ↦ absurd bad ]
]

fewer : (j : ℕ) → j < 2 → length (all_included [] (take j chained)) ≤ 2
fewer zero lt = omega arith
fewer (suc zero) lt = omega arith
fewer (suc (suc j)) lt = absurd (omega arith)

-- two are too few for both clauses
two_are_over : IsPassedAt chained 2 2
two_are_over = record { there = omega arith; sets = chained_sets; over = omega arith; before = fewer }

-- ---- one clause, and a closed atom

abbrev first_alone : Initial
first_alone = record { clauses = (positive 0 ∷ positive 1 ∷ []) ∷ []; closed = (record { 0 = 1 }) ∷ [] }

alone_sets : AreSets first_alone.clauses
alone_sets c m = elim m [ inl e ↦ subst IsAscending e (omega arith, tt) | inr bad ↦ absurd bad ]

at_most_one : (j : ℕ) → j ≤ 1 → length (all_included [] (take j first_alone.clauses)) ≤ 1
at_most_one zero le = omega arith
at_most_one (suc zero) le = omega arith
at_most_one (suc (suc j)) le = absurd (omega arith)

counted : AreCounted first_alone.clauses 1 1 first_alone.clauses
counted = record { so_far = refl; sets = alone_sets; within_limit = at_most_one }

abbrev stored : List (List Lit)
stored = (negative 1 ∷ []) ∷ (positive 0 ∷ []) ∷ []

abbrev in_order : List (List Lit)
in_order = (positive 0 ∷ []) ∷ (negative 1 ∷ []) ∷ []

sorted : IsSorted lits_cmp in_order
sorted zero d low high = refl
sorted (suc k) d low high = absurd (omega arith)

-- the first atom is true, and the second false
first_found : IsFound first_alone 1 (record { atoms = 2; clauses = in_order })
first_found = is_found first_alone 2 1 first_alone.clauses stored in_order (record { clauses = refl; closed = refl }) counted refl refl (IsPermutation-reverse stored) sorted

first_whole : AreWhole (record { atoms = 2; clauses = in_order })
first_whole = first_found.whole_invariant
