-- The width of a target, how many of its relevant clauses it takes to cover it, and of a problem. (Palacios and Geffner, JAIR 35, 2009.)
use Rattle.std.specs.Prelude.{◌≡◌, ◌≤◌, ◌⊎◌, ℕ, List, length}
use Rattle.kp_base.specs.declared.lit.Lit.{Lit}
use Rattle.kp_base.specs.declared.ground.Ground.{Ground}
use Rattle.kp_base.specs.declared.ground.Initial.{Initial}
use Rattle.kp_base.specs.Covering.{AreTagsOfClauses, Covers, IsTarget}
use Rattle.kp_base.specs.Relevance.{AreClausesFor}
use Rattle.kp_cover_subsets.specs.Laws.{IsSublist}

-- the clauses are some of those that are relevant to the target, and their tags cover it
pub record CoversTarget (g : Ground) (i : Initial) (target : Lit) (clauses tags : List (List Lit)) : Type 0 where
  pub relevant : List (List Lit)
  pub are_relevant : AreClausesFor g.actions (length g.atoms) i target relevant
  pub some : IsSublist clauses relevant
  pub its_tags : AreTagsOfClauses i clauses tags
  pub cover : Covers g i tags target

-- some set of so many clauses covers the target, and no smaller one does
pub record HasWidth (g : Ground) (i : Initial) (target : Lit) (width : ℕ) : Type 0 where
  pub clauses : List (List Lit)
  pub tags : List (List Lit)
  pub covers : CoversTarget g i target clauses tags
  pub as_many : length clauses ≡ width
  pub least : (others more : List (List Lit)) → CoversTarget g i target others more → width ≤ length others

-- a problem is as wide as the widest of its targets, and 0 wide where it has none
pub record IsAsWide (g : Ground) (i : Initial) (width : ℕ) : Type 0 where
  pub each : (target : Lit) → IsTarget g target → (w : ℕ) × HasWidth g i target w × (w ≤ width)
  pub some : (width ≡ 0) ⊎ ((target : Lit) × IsTarget g target × HasWidth g i target width)
