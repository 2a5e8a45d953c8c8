-- The clauses that are relevant to a target are of the atoms.
use Rattle.std.proofs.Common.{◌≡◌, true, List}
use Rattle.std.specs.List.{list_all}
use Rattle.kp_base.specs.declared.lit.Lit.{Lit}
use Rattle.kp_base.specs.Implicates.{are_below}
use Rattle.kp_primes.specs.Held.{Held, AreWhole}
use Rattle.kp_relevance.specs.Candidates.{AnswersClausesFor}
use Rattle.kp_cover.proofs.Public.{relevant_clauses_are_of_atoms}
use Rattle.kp_tags_modes.specs.Added.{AreOfSome}

pub answered_below : (pairs : List (Lit × Lit)) (h : Held) → AreWhole h → (target : Lit) (cs : List (List Lit)) → AreOfSome pairs h → AnswersClausesFor pairs h target cs → list_all (are_below h.atoms) cs ≡ true
answered_below pairs h whole target cs some answers = relevant_clauses_are_of_atoms h whole some.ground.actions target cs (answers some.ground some.of_ground some.atoms)
