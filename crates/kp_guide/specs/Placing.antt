-- How facts get their places, and rules on them. This file serves proofs alone.
use Rattle.std.specs.Prelude.{◌≡◌, ◌<◌, ℕ, true, List, ◌++◌, Some, length, map, slice_get}
use Rattle.std.specs.List.{list_all}
use Rattle.kp_base.specs.Lists.{Member}
use Rattle.kp_classic.specs.Fits.{are_below}
use Rattle.kp_classic.specs.States.{has}
use Rattle.kp_guide.specs.declared.rule.Rule.{Rule}
use Rattle.kp_guide.specs.CostTables.{fits_rule}
use Rattle.kp_guide.specs.Relaxed.{at, AreRead, HasPlaced}
use Rattle.kp_guide.specs.Waiting.{row}

-- facts and their places; those that have none yet get one behind the others
pub record ArePlaces (fs old new places : List ℕ) : Type 0 where
  pub more : List ℕ
  pub grows : new ≡ old ++ more
  pub inside : are_below (length new) places ≡ true
  pub are : map (at new) places ≡ fs
  pub below : (n : ℕ) → are_below n old ≡ true → are_below n fs ≡ true → are_below n new ≡ true

-- of each fact the numbers of those of the first i rules that add it
pub record AreAdders (rules : List Rule) (i : ℕ) (rows : List (List ℕ)) : Type 0 where
  pub listed : (k : ℕ) (r : Rule) → k < i → slice_get rules k ≡ Some r → has (row rows r.fact) k ≡ true
  pub only : (f k : ℕ) (r : Rule) → Member (row rows f) k → slice_get rules k ≡ Some r → r.fact ≡ f
  pub below : (f k : ℕ) → Member (row rows f) k → k < i

-- more facts and more rules, and what was there is there still
pub record Grows (all : List Rule) (facts : List ℕ) (rules : List Rule) (facts' : List ℕ) (rules' : List Rule) : Type 0 where
  pub more : List ℕ
  pub grows : facts' ≡ facts ++ more
  pub read : AreRead all facts' rules'
  pub keeps : (i : ℕ) (r : Rule) → HasPlaced facts rules i r → HasPlaced facts' rules' i r
  pub below : (n : ℕ) → are_below n facts ≡ true → list_all (fits_rule n) all ≡ true → are_below n facts' ≡ true

-- the rules with these numbers have the place's fact
pub record AddThere (all : List Rule) (numbers facts : List ℕ) (place : ℕ) : Type 0 where
  pub inside : place < length facts
  pub each : (k : ℕ) → Member numbers k → (r : Rule) × (slice_get all k ≡ Some r) × (r.fact ≡ at facts place)

-- the rules with these numbers are placed there
abbrev pub HaveAll : List Rule → List ℕ → List ℕ → List Rule → ℕ → Type 0
HaveAll all numbers facts rules place = (k : ℕ) (r : Rule) → Member numbers k → slice_get all k ≡ Some r → HasPlaced facts rules place r

-- the rules for the first facts are placed
pub record ArePlacedTo (all : List Rule) (p : ℕ) (facts : List ℕ) (rules : List Rule) : Type 0 where
  pub read : AreRead all facts rules
  pub each : (i : ℕ) (r : Rule) → i < p → i < length facts → Member all r → r.fact ≡ at facts i → HasPlaced facts rules i r
