-- Merges of one target, put behind others. This file serves proofs alone.
use Rattle.std.specs.Prelude.{◌≡◌, ◌++◌, ℕ, List, [], ◌∷◌, Result, Ok, Err, fold, map, length}
use Rattle.kp_base.specs.declared.lit.Lit.{Lit}
use Rattle.kp_base.specs.declared.ground.Ground.{Ground}
use Rattle.kp_base.specs.declared.ground.Initial.{Initial}
use Rattle.kp_base.specs.declared.refused.Stop.{Stop}
use Rattle.kp_base.specs.declared.refused.Stop.TheVariants as stops
use Rattle.kp_base.specs.declared.refused.Refused.TheVariants as refusals
use Rattle.kp_base.specs.Lit.{positive}
use Rattle.kp_base.specs.LitSet.{with_lit}
use Rattle.kp_base.specs.Covering.{AreTagsOfClauses, AllMeet}
use Rattle.kp_primes.specs.Held.{Held, formula}
use Rattle.kp_relevance.specs.Relevant.{ArePairsOf}
use Rattle.kp_relevance.specs.Candidates.{AnswersClausesFor}
use Rattle.kp_tags_files.specs.declared.merge.FileMerge.{FileMerge}
use Rattle.kp_tags_modes.specs.declared.way.Way.{Way}
use Rattle.kp_tags_modes.specs.Modes.{merge_of, IsRefusedAt, AreMergesBy}

-- merges of the target with these lists of tags stand behind the old ones
pub record Adds (target : Lit) (are : List (List (List Lit)) → Type 0) (old new : List FileMerge) : Type 0 where
  pub lists : List (List (List Lit))
  pub right : are lists
  pub added : new ≡ old ++ map (merge_of target) lists

-- so, or the target is refused at a size
abbrev pub AddsOrRefuses : Lit → (List (List (List Lit)) → Type 0) → (ℕ → Type 0) → List FileMerge → List FileMerge → Result Unit Stop → Type 0
AddsOrRefuses target are refused old new (Ok done) = Adds target are old new
AddsOrRefuses target are refused old new (Err (stops.Refused r)) = (size : ℕ) × (r ≡ refusals.SetsOver target size) × refused size
AddsOrRefuses target are refused old new (Err stops.Memory) = Unit {0}

-- one merge over the clauses
pub data IsOver (i : Initial) (clauses : List (List Lit)) : List (List (List Lit)) → Type 0 where
  one : (tags : List (List Lit)) → AreTagsOfClauses i clauses tags → IsOver i clauses (tags ∷ [])

-- the empty tag doesn't cover, and the size is refused
pub record IsRefusedBy (way : Way) (limit : ℕ) (i : Initial) (cs : List (List Lit)) (size : ℕ) : Type 0 where
  pub uncovered : AllMeet i ([] ∷ []) cs → ⊥
  pub refused : IsRefusedAt way limit i cs size

-- the pairs are those of some ground problem, over these atoms
pub record AreOfSome (pairs : List (Lit × Lit)) (h : Held) : Type 0 where
  pub ground : Ground
  pub of_ground : ArePairsOf ground pairs
  pub atoms : length ground.atoms ≡ h.atoms

-- by the clauses that are answered for a target
pub record AreByRelevance (way : Way) (limit : ℕ) (pairs : List (Lit × Lit)) (h : Held) (target : Lit) (lists : List (List (List Lit))) : Type 0 where
  pub clauses : List (List Lit)
  pub are_clauses : AnswersClausesFor pairs h target clauses
  pub by_clauses : AreMergesBy way limit (formula h) clauses lists

pub record IsRefusedByRelevance (way : Way) (limit : ℕ) (pairs : List (Lit × Lit)) (h : Held) (target : Lit) (size : ℕ) : Type 0 where
  pub clauses : List (List Lit)
  pub are_clauses : AnswersClausesFor pairs h target clauses
  pub refused : IsRefusedBy way limit (formula h) clauses size

-- ---- atoms

-- the set with the atoms of a clause, as positive literals
abbrev pub with_atoms : List Lit → List Lit → List Lit
with_atoms set c = fold (λ s l. with_lit (positive l.atom.0) s) set c

-- and those of clauses
abbrev pub atoms_in : List (List Lit) → List Lit
atoms_in cs = fold with_atoms [] cs
