-- What holds of each course. This file serves proofs alone.
use Rattle.std.specs.Prelude.{◌≡◌, ◌<◌, ◌≤◌, ◌⊎◌, ℕ, true, false, List, Option, Some, None, length, slice_get}
use Rattle.kp_classic.specs.declared.task.Task.{Task}
use Rattle.kp_classic.specs.Fits.{are_below}
use Rattle.kp_classic.specs.Runs.{state_at_end}
use Rattle.kp_classic.specs.States.{FactSet}
use Rattle.kp_search.specs.Trace.{Entry, Course, first, can, step, is_goal, is_taken}

-- an entry with this state is there
abbrev pub Entered : Course → FactSet → Type 0
Entered c s = (n : ℕ) × (e : Entry) × (slice_get c.entries n ≡ Some e) × (e.state ≡ s)

-- the entry with this state at a place was expanded
abbrev pub Expanded : Course → ℕ → FactSet → Type 0
Expanded c k s = (m : ℕ) × (d : Entry) × (slice_get c.expanded k ≡ Some m) × (slice_get c.entries m ≡ Some d) × (d.state ≡ s)

-- operators of the task lead to the state
pub record IsLed (t : Task) (ops : List ℕ) (s : FactSet) : Type 0 where
  pub leads : state_at_end t ops ≡ Some s
  pub of_task : are_below (length t.ops) ops ≡ true

module _ (t : Task) (may : FactSet → Option ℕ → Type 0) where
  pub record IsSoundCourse (budget : ℕ) (c : Course) : Type 0 where
    pub inside : (n : ℕ) → is_taken c n ≡ true → n < length c.entries
    pub expanded : (k m : ℕ) → slice_get c.expanded k ≡ Some m → is_taken c m ≡ true
    pub few : length c.expanded ≤ budget
    pub reached : (n : ℕ) (e : Entry) → slice_get c.entries n ≡ Some e → IsLed t e.ops e.state
    pub taken : (n : ℕ) (e : Entry) → is_taken c n ≡ true → slice_get c.entries n ≡ Some e → (k : ℕ) × Expanded c k e.state
    pub begun : may (first t) None ⊎ Entered c (first t)
    pub no_goal : (k : ℕ) (s : FactSet) → Expanded c k s → is_goal t s ≡ false
    pub closed : (k : ℕ) (s : FactSet) → Expanded c k s → (op : ℕ) → op < length t.ops → can t op s ≡ true → may (step t op s) None ⊎ Entered c (step t op s)
    pub apart : (j k : ℕ) (s : FactSet) → Expanded c j s → Expanded c k s → j ≡ k
