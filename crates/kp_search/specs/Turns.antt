-- What the search promises at each turn. This file serves proofs alone.
use Rattle.std.specs.Prelude.{◌≡◌, ◌≤◌, ◌+◌, ◌-◌, ◌*◌, ℕ, true, false, List, [], ◌++◌, Option, Some, None, length, reverse, slice_get}
use Rattle.kp_classic.specs.declared.task.Task.{Task}
use Rattle.kp_classic.specs.States.{FactSet}
use Rattle.kp_search.specs.declared.course.Origin.TheVariants.{Step}
use Rattle.kp_search.specs.declared.course.Search.{Search}
use Rattle.kp_search.specs.declared.key.Key.{Key}
use Rattle.kp_search.specs.Estimates.{AreEstimates}
use Rattle.kp_search.specs.Trace.{Entry, Course, can, step, IsNext, with_taken, with_expanded, Enters, IsCourse}
use Rattle.kp_search.specs.Kept.{Adds, Keeps}

-- what is kept of the course at a turn, where the table has room for the budget
pub record IsAt (t : Task) (may : FactSet → Option ℕ → Type 0) (budget : ℕ) (s : Search) : Type 0 where
  pub course : Course
  pub is : IsCourse t may budget course
  pub kept : Keeps t course s
  pub has_room : budget ≤ s.table.room
  pub asked : AreEstimates may s.table.states s.estimates.items

-- what is left to do: entries that wait, and those that the entries to be expanded may yet bring
abbrev pub work : Task → ℕ → Search → ℕ
work t budget s = length s.waiting + (budget - length s.expanded.items) * (length t.ops + 1)

-- what an operator does where an entry is expanded: nothing, or its state is hopeless, or it is entered
pub data Tries (t : Task) (may : FactSet → Option ℕ → Type 0) (k op : ℕ) (s : FactSet) (old new : Search) : Type 0 where
  off : can t op s ≡ false → new ≡ old → Tries t may k op s old new
  dead : can t op s ≡ true → may (step t op s) None → new ≡ old → Tries t may k op s old new
  enters : (h : ℕ) → can t op s ≡ true → may (step t op s) (Some h) → Adds old (Step k op) h new → Tries t may k op s old new

-- the entry that is expanded
pub record Expanding (t : Task) (c : Course) (k n : ℕ) (e : Entry) (s : Search) (state : FactSet) : Type 0 where
  pub kept : Keeps t (with_expanded c n []) s
  pub place : k ≡ length c.expanded
  pub there : slice_get c.entries n ≡ Some e
  pub same : e.state ≡ state

-- the first operators have entered what they enter
abbrev pub Spreads : Task → (FactSet → Option ℕ → Type 0) → ℕ → FactSet → Search → ℕ → Search → Type 0
Spreads t may k state old op new =
    (c : Course) (n : ℕ) (e : Entry) → Expanding t c k n e old state → (entries : List Entry) × Enters t may e op entries × Keeps t (with_expanded c n entries) new

-- an entry of this number is there
pub record IsKnown (t : Task) (s : Search) (n : ℕ) : Type 0 where
  pub course : Course
  pub entry : Entry
  pub kept : Keeps t course s
  pub there : slice_get course.entries n ≡ Some entry

-- what holds of the entry with this number, whatever the course is
abbrev pub OfEntry : Task → Search → ℕ → (Entry → Type 0) → Type 0
OfEntry t s n P = (c : Course) (e : Entry) → Keeps t c s → slice_get c.entries n ≡ Some e → P e

-- the entry with this key and state was taken
pub record IsTaken (t : Task) (may : FactSet → Option ℕ → Type 0) (budget : ℕ) (key : Key) (state : FactSet) (s : Search) : Type 0 where
  pub course : Course
  pub is : IsCourse t may budget course
  pub entry : Entry
  pub next : IsNext course key.number entry
  pub kept : Keeps t (with_taken course key.number) s
  pub has_room : budget ≤ s.table.room
  pub asked : AreEstimates may s.table.states s.estimates.items
  pub same : entry.state ≡ state
  pub estimate : entry.estimate ≡ key.estimate

-- the entry at a place is on the way to the one with this number, and these operators, the last first, lead on from it
abbrev pub IsBehind : Task → Search → ℕ → ℕ → List ℕ → Type 0
IsBehind t s n at back = (c : Course) (e : Entry) → Keeps t c s → slice_get c.entries n ≡ Some e → (d : Entry) × (slice_get c.entries at ≡ Some d) × (e.ops ≡ d.ops ++ reverse back)
