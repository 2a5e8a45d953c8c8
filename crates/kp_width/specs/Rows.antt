-- The rows of targets: the first of the least sets of relevant clauses that cover, with its tags. Sets of one size stand in order, and there is a limit on how many of one size are tried.
use Rattle.std.specs.Prelude.{◌≡◌, ◌≤◌, ◌<◌, ◌+◌, ◌++◌, ℕ, List, [], ◌∷◌, length, max}
use Rattle.std.specs.List.{flat_map}
use Rattle.kp_base.specs.declared.lit.Lit.{Lit}
use Rattle.kp_base.specs.declared.ground.Ground.{Ground}
use Rattle.kp_base.specs.declared.ground.Initial.{Initial}
use Rattle.kp_base.specs.Lists.{Member, each_once}
use Rattle.kp_base.specs.LitSet.{same_set}
use Rattle.kp_base.specs.Relevance.{AreClausesFor}
use Rattle.kp_cover_subsets.specs.Subsets.{subsets, choose}
use Rattle.kp_cover.specs.Covering.{IsCover}
use Rattle.kp_width.specs.declared.report.WidthRow.{WidthRow}

-- ---- sets of the clauses that are relevant to a target

-- none of these sets of clauses has tags that meet all the clauses
abbrev pub NoneCovers : Initial → List (List Lit) → List (List (List Lit)) → Type 0
NoneCovers i cs sets = (set tags : List (List Lit)) → Member sets set → IsCover i cs set tags → ⊥

-- the set is the first of these that covers, and these are its tags
pub record IsFirstCover (i : Initial) (cs : List (List Lit)) (sets : List (List (List Lit))) (set tags : List (List Lit)) : Type 0 where
  pub earlier : List (List (List Lit))
  pub later : List (List (List Lit))
  pub among : sets ≡ earlier ++ set ∷ later
  pub covers : IsCover i cs set tags
  pub none_earlier : NoneCovers i cs earlier

-- the sizes below this one are passed: of each there are no more sets of clauses than the limit, and none of them covers
pub record AreSizesPassed (limit : ℕ) (i : Initial) (cs : List (List Lit)) (size : ℕ) : Type 0 where
  pub few : (v : ℕ) → v < size → choose (length cs) v ≤ limit
  pub none_covers : (v : ℕ) → v < size → NoneCovers i cs (subsets v cs)

-- the set is the first of the least sets that cover, of a size up to the bound, and these are its tags
pub record HasLeastCover (limit bound : ℕ) (i : Initial) (cs set tags : List (List Lit)) : Type 0 where
  pub in_bound : length set ≤ bound
  pub few : choose (length cs) (length set) ≤ limit
  pub first : IsFirstCover i cs (subsets (length set) cs) set tags
  pub passed : AreSizesPassed limit i cs (length set)

-- of each size up to the bound there are no more sets than the limit, and none of them covers
abbrev pub HasNoCover : ℕ → ℕ → Initial → List (List Lit) → Type 0
HasNoCover limit bound i cs = AreSizesPassed limit i cs (bound + 1)

-- no smaller set covers, and of this size there are more sets than the limit
pub record HasTooManySets (limit bound : ℕ) (i : Initial) (cs : List (List Lit)) (size : ℕ) : Type 0 where
  pub in_bound : size ≤ bound
  pub many : limit < choose (length cs) size
  pub passed : AreSizesPassed limit i cs size

-- ---- targets

-- the row of the target
pub record IsRowOf (limit bound : ℕ) (g : Ground) (i : Initial) (target : Lit) (row : WidthRow) : Type 0 where
  pub same_target : row.target ≡ target
  pub relevant : List (List Lit)
  pub are_relevant : AreClausesFor g.actions (length g.atoms) i target relevant
  pub least_cover : HasLeastCover limit bound i relevant row.clauses row.tags

-- the target has no cover of a size up to the bound, and of none of these sizes are there more sets than the limit
pub record IsOver (limit bound : ℕ) (g : Ground) (i : Initial) (target : Lit) : Type 0 where
  pub relevant : List (List Lit)
  pub are_relevant : AreClausesFor g.actions (length g.atoms) i target relevant
  pub no_cover : HasNoCover limit bound i relevant

-- the target is refused at the size
pub record IsOverfullAt (limit bound : ℕ) (g : Ground) (i : Initial) (target : Lit) (size : ℕ) : Type 0 where
  pub relevant : List (List Lit)
  pub are_relevant : AreClausesFor g.actions (length g.atoms) i target relevant
  pub too_many : HasTooManySets limit bound i relevant size

-- each target has its row, in order
pub data AreRows (limit bound : ℕ) (g : Ground) (i : Initial) : List Lit → List WidthRow → Type 0 where
  done : AreRows limit bound g i [] []
  more : (target : Lit) (targets : List Lit) (row : WidthRow) (rows : List WidthRow) → IsRowOf limit bound g i target row → AreRows limit bound g i targets rows → AreRows limit bound g i (target ∷ targets) (row ∷ rows)

-- the target is one of these, and each before it has a row
pub record IsTargetReached (limit bound : ℕ) (g : Ground) (i : Initial) (targets : List Lit) (target : Lit) : Type 0 where
  pub earlier : List Lit
  pub later : List Lit
  pub among : targets ≡ earlier ++ target ∷ later
  pub rows : List WidthRow
  pub are_rows : AreRows limit bound g i earlier rows

-- ---- all rows

-- the different tags of the rows, and the empty one
abbrev pub row_tags : List WidthRow → List (List Lit)
row_tags rows = each_once same_set ([] ∷ flat_map (λ row. row.tags) rows)

-- the greatest number of clauses of a row, and 0 where there is none
abbrev pub greatest_width : List WidthRow → ℕ
greatest_width [] = 0
greatest_width (row ∷ rows) = max (length row.clauses) (greatest_width rows)
