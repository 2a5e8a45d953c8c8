-- Between which places the deletes of an atom stand in an action. Beside proofs it serves the contracts that cite `AreBetween`.
use Rattle.std.specs.Prelude.{◌≡◌, ◌≤◌, ◌<◌, ◌%◌, ℕ, true, false, List, Some, slice_get, slice_index_or}
use Rattle.kp_base.specs.declared.ground.Effect.{Effect}
use Rattle.kp_base.specs.Lit.{negative, same_lit}

-- if the effect at this place is a delete, the place is among those of the slot of its atom
abbrev pub IsBetween : List ℕ → List ℕ → ℕ → Effect → Type 0
IsBetween firsts ends i d = d.result.positive ≡ false → (slice_index_or firsts (d.result.atom.0 % 4096) 0 ≤ i) × (i < slice_index_or ends (d.result.atom.0 % 4096) 0)

-- so of each effect
abbrev pub AreBetween : List ℕ → List ℕ → List Effect → Type 0
AreBetween firsts ends es = (i : ℕ) (d : Effect) → slice_get es i ≡ Some d → IsBetween firsts ends i d

-- no number rose
abbrev pub Falls : List ℕ → List ℕ → Type 0
Falls old new = (k : ℕ) → slice_index_or new k 0 ≤ slice_index_or old k 0

-- none fell
abbrev pub Rises : List ℕ → List ℕ → Type 0
Rises old new = (k : ℕ) → slice_index_or old k 0 ≤ slice_index_or new k 0

-- the deletes of the atom stand from this place on, and before that one
abbrev pub DeletesFrom : List Effect → ℕ → ℕ → ℕ → Type 0
DeletesFrom es q from to = (i : ℕ) (d : Effect) → slice_get es i ≡ Some d → same_lit d.result (negative q) ≡ true → (from ≤ i) × (i < to)
