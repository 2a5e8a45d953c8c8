-- Clauses that are put one after another into a store of prime implicates. This file serves proofs alone.
use Rattle.std.specs.Prelude.{◌≡◌, ℕ, Bool, true, false, not, ◌||◌, ◌&&◌, cond, List, [], ◌∷◌, ◌++◌, ◌≤◌, ◌<◌, take, length}
use Rattle.std.specs.List.{list_any}
use Rattle.kp_base.specs.declared.lit.Lit.{Lit}
use Rattle.kp_base.specs.declared.lit.AtomId.{AtomId}
use Rattle.kp_base.specs.declared.refused.Stop.{Stop}
use Rattle.kp_base.specs.declared.refused.Stop.TheVariants as stops
use Rattle.kp_base.specs.declared.refused.Refused.{Refused}
use Rattle.kp_base.specs.declared.refused.Refused.TheVariants as refusals
use Rattle.kp_primes.specs.declared.include.Entry.{Entry}
use Rattle.kp_primes.specs.declared.include.Entry.TheVariants as entries
use Rattle.kp_base.specs.Planning.{Member, negated, negative, IsAscending, with_lit, is_tautology}
use Rattle.kp_base.specs.Steps.{has}
use Rattle.kp_base.specs.Implicates.{is_within}
use Rattle.kp_clauses.specs.Resolved.{without, resolved}
use Rattle.kp_clauses.specs.Stored.{subsumed, with_all, are_apart}

-- ---- one clause

-- the clauses with one more, unless one of them is within it
abbrev pub grown : List (List Lit) → List Lit → List (List Lit)
grown fs c = cond (subsumed fs c) fs (fs ++ c ∷ [])

-- a literal of a clause may be left out: with l a new clause is within the others, and with l's negation a prime implicate
abbrev pub is_spare : List (List Lit) → List (List Lit) → Lit → List Lit → Lit → Bool
is_spare ps es l c x = subsumed es (without x (with_lit l c)) && subsumed ps (without x (with_lit (negated l) c))

-- a resolvent on l is kept: it is no tautology, lacks l, no prime implicate is within it, and no literal of it may be left out
abbrev pub is_least : List (List Lit) → List (List Lit) → Lit → List Lit → Bool
is_least ps es l c = not (is_tautology c || (has c l || (subsumed ps c || list_any (is_spare ps es l c) c)))

-- a new clause is resolved with a prime implicate that has the literal's negation
abbrev pub met : List (List Lit) → List (List Lit) → List Lit → Lit → List Lit → List (List Lit) → List (List Lit)
met ps es e l p fs = cond (has p (negated l) && is_least ps es l (resolved e p l)) (grown fs (resolved e p l)) fs

-- and with each of these
abbrev pub met_all : List (List Lit) → List (List Lit) → List Lit → Lit → List (List Lit) → List (List Lit) → List (List Lit)
met_all ps es e l [] fs = fs
met_all ps es e l (p ∷ rest) fs = met_all ps es e l rest (met ps es e l p fs)

-- each of these clauses that has the literal with each prime implicate
abbrev pub spread : List (List Lit) → List (List Lit) → Lit → List (List Lit) → List (List Lit) → List (List Lit)
spread ps es l [] fs = fs
spread ps es l (e ∷ rest) fs = spread ps es l rest (cond (has e l) (met_all ps es e l ps fs) fs)

-- the new clauses, resolved on a literal
abbrev pub stepped : List (List Lit) → Lit → List (List Lit) → List (List Lit)
stepped ps l es = with_all es (spread ps es l es [])

-- literal by literal
abbrev pub walked : List (List Lit) → List Lit → List (List Lit) → List (List Lit)
walked ps [] es = es
walked ps (l ∷ ls) es = walked ps ls (stepped ps l es)

-- the clause brings nothing new
abbrev pub idle : List (List Lit) → List Lit → Bool
idle ps c = is_tautology c || subsumed ps c

-- the prime implicates with one clause more
abbrev pub included : List (List Lit) → List Lit → List (List Lit)
included ps c = cond (idle ps c) ps (with_all ps (walked ps c (c ∷ [])))

-- with each of these clauses in turn
abbrev pub all_included : List (List Lit) → List (List Lit) → List (List Lit)
all_included ps [] = ps
all_included ps (c ∷ cs) = all_included (included ps c) cs

-- what became of a clause that was put in: it is in, and there are no more than the limit; or there are more with it
abbrev pub Enters : List (List Lit) → List Lit → ℕ → List (List Lit) → Entry → Type 0
Enters ps c limit qs entries.In = (qs ≡ included ps c) × (length qs ≤ limit)
Enters ps c limit qs entries.Over = limit < length (included ps c)

-- what became of new clauses: they are resolved on these literals, or there are more than the limit
abbrev pub Walks : List (List Lit) → List Lit → List (List Lit) → ℕ → List (List Lit) → Entry → Type 0
Walks ps ls es limit fs entries.In = fs ≡ walked ps ls es
Walks ps ls es limit fs entries.Over = limit < length (with_all ps (walked ps ls es))

-- what became of new clauses that were resolved on a literal: what came of it was put behind, or there are more than the limit
abbrev pub Spreads : List (List Lit) → List (List Lit) → Lit → ℕ → List (List Lit) → List (List Lit) → Entry → Type 0
Spreads ps es l limit fs gs entries.In = gs ≡ spread ps es l es fs
Spreads ps es l limit fs gs entries.Over = limit < length (spread ps es l es fs)

-- or was put in
abbrev pub Steps : List (List Lit) → Lit → List (List Lit) → ℕ → List (List Lit) → Entry → Type 0
Steps ps l es limit fs entries.In = fs ≡ stepped ps l es
Steps ps l es limit fs entries.Over = limit < length (stepped ps l es)

-- whether a store is within the limit
abbrev pub Counts : List (List Lit) → ℕ → Entry → Type 0
Counts ps limit entries.In = length ps ≤ limit
Counts ps limit entries.Over = limit < length ps

-- the clause that an atom is false
abbrev pub unit_of : AtomId → List Lit
unit_of p = negative p.0 ∷ []

-- new clauses where these literals are still to be resolved on: each has them, none is within another, and no prime implicate is within one
pub record AreNew (ps : List (List Lit)) (rest : List Lit) (es : List (List Lit)) : Type 0 where
  pub rising : IsAscending rest
  pub apart : are_apart es ≡ true
  pub rest_in : (e : List Lit) → Member es e → is_within rest e ≡ true
  pub free : (e : List Lit) → Member es e → subsumed ps e ≡ false

-- ---- all clauses

-- each clause is in order
abbrev pub AreSets : List (List Lit) → Type 0
AreSets cs = (c : List Lit) → Member cs c → IsAscending c

-- after k clauses, of which none of the first j gave more than the limit
pub record AreCounted (cs : List (List Lit)) (limit k : ℕ) (ps : List (List Lit)) : Type 0 where
  pub so_far : ps ≡ all_included [] (take k cs)
  pub sets : AreSets (take k cs)
  pub within_limit : (j : ℕ) → j ≤ k → length (all_included [] (take j cs)) ≤ limit

-- the first k give more, and no fewer do
pub record IsPassedAt (cs : List (List Lit)) (limit k : ℕ) : Type 0 where
  pub there : k ≤ length cs
  pub sets : AreSets (take k cs)
  pub over : limit < length (all_included [] (take k cs))
  pub before : (j : ℕ) → j < k → length (all_included [] (take j cs)) ≤ limit

-- such a refusal, before the closed atoms
pub data RefusesPrefix (cs : List (List Lit)) (limit : ℕ) : Refused → Type 0 where
  passed_at : (k : ℕ) → IsPassedAt cs limit k → RefusesPrefix cs limit (refusals.ImplicatesOver k)

-- what stops a build before the closed atoms: that the limit is passed, or want of memory
abbrev pub StopsPrefix : List (List Lit) → ℕ → Stop → Type 0
StopsPrefix cs limit (stops.Refused r) = RefusesPrefix cs limit r
StopsPrefix cs limit stops.Memory = Unit {0}
