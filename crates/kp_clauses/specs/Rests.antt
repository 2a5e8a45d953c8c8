-- What clauses have beside the literals of another one but one.
use Rattle.std.specs.Prelude.{◌≡◌, false, not, ◌||◌, ◌++◌, cond, fold, List, []}
use Rattle.kp_base.specs.declared.lit.Lit.{Lit}
use Rattle.kp_base.specs.Planning.{Member, negated, same_lit, with_lit}
use Rattle.kp_base.specs.Steps.{has}
use Rattle.kp_clauses.specs.Resolved.{without}

-- the set with a literal, if a clause without l lacks it; for proofs alone
abbrev pub with_outside : List Lit → Lit → List Lit → Lit → List Lit
with_outside e l set x = cond (same_lit x l || not (has e x)) (with_lit x set) set

-- what a clause has beside another one without l; for proofs alone
abbrev pub rest_of : List Lit → Lit → List Lit → List Lit
rest_of e l d = fold (with_outside e l) [] d

-- this and another one without l have all literals of one of the clauses, and this lacks l's negation
pub record IsRest (cs : List (List Lit)) (e : List Lit) (l : Lit) (r : List Lit) : Type 0 where
  pub clause : List Lit
  pub there : Member cs clause
  pub covers : (x : Lit) → Member clause x → Member (without l e ++ r) x
  pub free : has r (negated l) ≡ false

-- each of these does
pub record AreRests (cs : List (List Lit)) (e : List Lit) (l : Lit) (rs : List (List Lit)) : Type 0 where
  pub each : (r : List Lit) → Member rs r → IsRest cs e l r
