-- How questions are answered from prime implicates. This file serves proofs alone.
use Rattle.std.specs.Prelude.{ℕ, Bool, false, ◌||◌, ◌&&◌, if◌then◌else◌, List, [], ◌∷◌, Option, Some, None, fold, slice_get, nat_lt}
use Rattle.std.specs.List.{list_any, list_all}
use Rattle.kp_base.specs.declared.lit.Lit.{Lit}
use Rattle.kp_base.specs.Planning.{negated, code_of, with_lit, is_tautology}
use Rattle.kp_base.specs.Steps.{has}
use Rattle.kp_clauses.specs.Listed.{row}
use Rattle.kp_clauses.specs.Sieved.{stands}

-- each literal's negation is in the tag
abbrev pub denied : List Lit → List Lit → Bool
denied tag c = list_all (λ x. has tag (negated x)) c

-- but for one literal
abbrev pub denied_but : List Lit → Lit → List Lit → Bool
denied_but tag l c = list_all (λ x. has tag (negated x) || has (l ∷ []) x) c

-- the tag opposes itself, or denies a clause
abbrev pub inconsistent : List (List Lit) → List Lit → Bool
inconsistent ps tag = is_tautology tag || list_any (denied tag) ps

-- the tag opposes itself, has the literal, or leaves a clause nothing but the literal
abbrev pub entailed_by : List (List Lit) → List Lit → Lit → Bool
entailed_by ps tag l = (is_tautology tag || has tag l) || list_any (denied_but tag l) ps

-- the first literal of a clause that the tag doesn't deny
abbrev pub first_left : List Lit → List Lit → Option Lit
first_left tag [] = None
first_left tag (x ∷ c) = if has tag (negated x) then first_left tag c else Some x

-- the set with such a literal of a clause, where the tag denies the others
abbrev pub with_only : List Lit → List Lit → List Lit → Option Lit → List Lit
with_only tag c set None = set
with_only tag c set (Some l) = if denied_but tag l c then with_lit l set else set

-- the set with what the tag leaves of a clause, if that is one literal
abbrev pub with_left : List Lit → List Lit → List Lit → List Lit
with_left tag set c = with_only tag c set (first_left tag c)

-- the set with a literal, if it is of one of the first n atoms
abbrev pub with_below : ℕ → List Lit → Lit → List Lit
with_below n set l = if nat_lt l.atom.0 n then with_lit l set else set

-- ---- clauses that have the negation of one of the tag's literals

-- this literal stands there
abbrev pub is_lit : Lit → Option Lit → Bool
is_lit l None = false
is_lit l (Some x) = has (l ∷ []) x

-- the literal is the clause's first or second
abbrev pub leads : Lit → List Lit → Bool
leads l c = is_lit l (slice_get c 0) || is_lit l (slice_get c 1)

-- the clause begins with the literal, and the tag denies it
abbrev pub denied_from : List Lit → Lit → List Lit → Bool
denied_from tag l c = is_lit l (slice_get c 0) && denied tag c

-- by the places of the clauses that have a literal: one that begins with it is denied
abbrev pub some_denied_from : List (List Lit) → List (List ℕ) → List Lit → Lit → Bool
some_denied_from ps lists tag l = list_any (λ i. stands (denied_from tag l) (slice_get ps i)) (row lists (code_of l))

-- one that begins with the negation of one of the tag's literals is
abbrev pub some_denied_near : List (List Lit) → List (List ℕ) → List Lit → Bool
some_denied_near ps lists tag = list_any (λ l. some_denied_from ps lists tag (negated l)) tag

-- the set with what the tag leaves of the clause there, if that is one literal and this one leads the clause
abbrev pub with_left_at : List Lit → Lit → List Lit → Option (List Lit) → List Lit
with_left_at tag l set None = set
with_left_at tag l set (Some c) = if leads l c then with_left tag set c else set

-- with what it leaves of each clause that the literal leads
abbrev pub with_left_from : List (List Lit) → List (List ℕ) → List Lit → List Lit → Lit → List Lit
with_left_from ps lists tag set l = fold (λ s i. with_left_at tag l s (slice_get ps i)) set (row lists (code_of l))

-- and of each that the negation of one of its literals leads
abbrev pub with_left_near : List (List Lit) → List (List ℕ) → List Lit → List Lit → List Lit
with_left_near ps lists tag set = fold (λ s l. with_left_from ps lists tag s (negated l)) set tag
