-- The clauses that are answered for a literal.
use Rattle.std.specs.Prelude.{◌≡◌, List, length}
use Rattle.kp_base.specs.declared.lit.Lit.{Lit}
use Rattle.kp_base.specs.declared.ground.Ground.{Ground}
use Rattle.kp_base.specs.Relevance.{AreClausesFor}
use Rattle.kp_primes.specs.Held.{Held, formula}
use Rattle.kp_relevance.specs.Relevant.{ArePairsOf}

-- what is answered where the pairs are those of a ground problem, and the prime implicates are over its atoms
abbrev pub AnswersClausesFor : List (Lit × Lit) → Held → Lit → List (List Lit) → Type 0
AnswersClausesFor pairs h target cs = (g : Ground) → ArePairsOf g pairs → length g.atoms ≡ h.atoms → AreClausesFor g.actions h.atoms (formula h) target cs
