-- Where a search finds a literal; said by a private function alone.
use Rattle.std.specs.Prelude.{ℕ, ◌≡◌, ◌<◌, ◌≤◌, List, length, slice_index_or}
use Rattle.kp_base.specs.declared.lit.Lit.{Lit}
use Rattle.kp_base.specs.Lit.{code_of}

-- the literal stands at this place
pub record IsAt (ls : List Lit) (l : Lit) (place : ℕ) : Type 0 where
  pub in_range : place < length ls
  pub is_here : (d : Lit) → slice_index_or ls place d ≡ l

-- the literals before this place have smaller codes, and those from it on greater ones
pub record IsGapFor (ls : List Lit) (l : Lit) (place : ℕ) : Type 0 where
  pub in_range : place ≤ length ls
  pub below : (k : ℕ) (d : Lit) → k < place → code_of (slice_index_or ls k d) < code_of l
  pub above : (k : ℕ) (d : Lit) → place ≤ k → k < length ls → code_of l < code_of (slice_index_or ls k d)
