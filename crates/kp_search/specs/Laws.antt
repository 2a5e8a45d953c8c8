-- What is proved of searches by one estimate.
use Rattle.std.specs.Prelude.{◌≡◌, ℕ, Option}
use Rattle.kp_classic.specs.declared.task.Task.{Task}
use Rattle.kp_classic.specs.Fits.{IsFit}
use Rattle.kp_classic.specs.States.{FactSet}
use Rattle.kp_search.specs.declared.found.Found.{Found}
use Rattle.kp_search.specs.Ends.{HasEnd, by_added}

-- a state may be estimated at nothing but this
abbrev pub gives : (FactSet → Option ℕ) → FactSet → Option ℕ → Type 0
gives h s x = x ≡ h s

-- a search has at most one end
abbrev pub HasOneEnd : Type 0
HasOneEnd = (t : Task) (h : FactSet → Option ℕ) (budget : ℕ) (a b : Found) → HasEnd t (gives h) budget a → HasEnd t (gives h) budget b → a ≡ b

-- and at least one
abbrev pub HasSomeEnd : Type 0
HasSomeEnd = (t : Task) (h : FactSet → Option ℕ) (budget : ℕ) → (f : Found) × HasEnd t (gives h) budget f

-- ---- the same of the estimate `added`

abbrev pub HasOneEndByAdded : Type 0
HasOneEndByAdded = (t : Task) (budget : ℕ) (a b : Found) → HasEnd t (by_added t) budget a → HasEnd t (by_added t) budget b → a ≡ b

abbrev pub HasSomeEndByAdded : Type 0
HasSomeEndByAdded = (t : Task) (budget : ℕ) → IsFit t → (f : Found) × HasEnd t (by_added t) budget f
