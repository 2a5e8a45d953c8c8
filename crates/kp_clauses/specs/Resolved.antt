-- Resolving two clauses.
use Rattle.std.specs.Prelude.{Bool, not, ◌&&◌, List, [], ◌++◌, Option, Some, None, filter, fold, if◌then◌else◌}
use Rattle.std.specs.List.{list_any}
use Rattle.kp_base.specs.declared.lit.Lit.{Lit}
use Rattle.kp_base.specs.Planning.{negated, same_lit, with_lit, set_of, is_tautology}
use Rattle.kp_base.specs.Steps.{has}

-- the clause without one literal
abbrev pub without : Lit → List Lit → List Lit
without l c = filter (λ x. not (same_lit x l)) c

-- the literals of both clauses but l in the first and its negation in the second, as a set
abbrev pub resolved : List Lit → List Lit → Lit → List Lit
resolved c d l = set_of (without l c ++ without (negated l) d)

-- the resolvent on a literal, unless it is a tautology
abbrev pub resolvent_on : Lit → List Lit → List Lit → Option (List Lit)
resolvent_on l c d = if is_tautology (resolved c d l) then None else Some (resolved c d l)

-- the set with a literal, unless it is the one to be left out; for proofs alone
abbrev pub with_unless : Lit → List Lit → Lit → List Lit
with_unless out set l = if same_lit l out then set else with_lit l set

-- another literal of the first clause has its negation in the second; for proofs alone
abbrev pub opposed_elsewhere : List Lit → List Lit → Lit → Bool
opposed_elsewhere c d l = list_any (λ x. not (same_lit x l) && has d (negated x)) c

-- the set with a literal, if the clause has it; for proofs alone
abbrev pub with_if : List Lit → List Lit → Lit → List Lit
with_if d set l = if has d l then with_lit l set else set

-- what a set and a clause have in common, as a set; for proofs alone
abbrev pub common : List Lit → List Lit → List Lit
common set d = fold (with_if d) [] set
