-- The course of a search: the entries, those that were taken, and those that were expanded.
use Rattle.std.specs.Prelude.{◌≡◌, ◌<◌, ◌≤◌, ◌⊎◌, ℕ, suc, Bool, true, false, List, [], ◌∷◌, ◌++◌, Option, Some, None, nat_eq, length, slice_get}
use Rattle.std.specs.List.{list_any}
use Rattle.kp_classic.specs.declared.task.Task.{Task}
use Rattle.kp_classic.specs.States.{FactSet, has, fact_set_of}
use Rattle.kp_classic.specs.Steps.{meets, applicable, next, start}

-- ---- states

-- the state at the start
abbrev pub first : Task → FactSet
first t = fact_set_of (length t.facts) (start t)

-- the operator is applicable in the state
abbrev pub can : Task → ℕ → FactSet → Bool
can t k s = applicable (slice_get t.ops k) (has s.hold)

-- the state after the operator
abbrev pub step : Task → ℕ → FactSet → FactSet
step t k s = fact_set_of (length t.facts) (next (slice_get t.ops k) (has s.hold))

-- the state meets the goal
abbrev pub is_goal : Task → FactSet → Bool
is_goal t s = meets t.goal (has s.hold)

-- ---- courses

-- an entry: its state, what that is estimated at, and the operators that lead there
pub record Entry : Type 0 where
  pub state : FactSet
  pub estimate : ℕ
  pub ops : List ℕ

-- the entries in the order of their numbers, and the numbers of those that were taken, the last first, and of those that were expanded, in order
pub record Course : Type 0 where
  pub entries : List Entry
  pub taken : List ℕ
  pub expanded : List ℕ

-- this entry was taken
abbrev pub is_taken : Course → ℕ → Bool
is_taken c n = list_any (nat_eq n) c.taken

-- an entry that was not taken
pub record Waits (c : Course) (n : ℕ) (e : Entry) : Type 0 where
  pub there : slice_get c.entries n ≡ Some e
  pub untaken : is_taken c n ≡ false

-- it is the next: of those that wait its estimate is least, and then its number
pub record IsNext (c : Course) (n : ℕ) (e : Entry) : Type 0 where
  pub waits : Waits c n e
  pub least : (m : ℕ) (d : Entry) → Waits c m d → (e.estimate < d.estimate) ⊎ ((e.estimate ≡ d.estimate) × (n ≤ m))

-- a state that was taken before
pub record WasTaken (c : Course) (s : FactSet) : Type 0 where
  pub number : ℕ
  pub entry : Entry
  pub taken : is_taken c number ≡ true
  pub there : slice_get c.entries number ≡ Some entry
  pub same : entry.state ≡ s

-- nothing was entered
abbrev pub nothing : Course
nothing = record { entries = []; taken = []; expanded = [] }

-- one state was entered
abbrev pub one_entry : FactSet → ℕ → Course
one_entry s h = record { entries = record { state = s; estimate = h; ops = [] } ∷ []; taken = []; expanded = [] }

-- an entry is taken
abbrev pub with_taken : Course → ℕ → Course
with_taken c n = record { entries = c.entries; taken = n ∷ c.taken; expanded = c.expanded }

-- an entry is taken and expanded, which enters others
abbrev pub with_expanded : Course → ℕ → List Entry → Course
with_expanded c n new = record { entries = c.entries ++ new; taken = n ∷ c.taken; expanded = c.expanded ++ n ∷ [] }

-- an entry for the state after an operator
abbrev pub entry_after : Task → Entry → ℕ → ℕ → Entry
entry_after t e k h = record { state = step t k e.state; estimate = h; ops = e.ops ++ k ∷ [] }

-- Each state may be estimated at a number, or at none.
module _ (t : Task) (may : FactSet → Option ℕ → Type 0) where
  -- what the first operators enter, in order, where an entry is expanded: nothing where one isn't applicable, or where its state is estimated at none
  pub data Enters (e : Entry) : ℕ → List Entry → Type 0 where
    none : Enters e 0 []
    off : (k : ℕ) (new : List Entry) → Enters e k new → can t k e.state ≡ false → Enters e (suc k) new
    dead : (k : ℕ) (new : List Entry) → Enters e k new → can t k e.state ≡ true → may (step t k e.state) None → Enters e (suc k) new
    enter : (k : ℕ) (new : List Entry) (h : ℕ) → Enters e k new → can t k e.state ≡ true → may (step t k e.state) (Some h) → Enters e (suc k) (new ++ entry_after t e k h ∷ [])

  -- The courses of a search that expands at most so many entries. It begins with the first state, unless that is estimated at none. The next entry
  -- is passed over where its state was taken before, and else it is expanded, unless it meets the goal or the budget is used up.
  pub data IsCourse (budget : ℕ) : Course → Type 0 where
    lost : may (first t) None → IsCourse budget nothing
    begun : (h : ℕ) → may (first t) (Some h) → IsCourse budget (one_entry (first t) h)
    passed : (c : Course) (n : ℕ) (e : Entry) → IsCourse budget c → IsNext c n e → WasTaken c e.state → IsCourse budget (with_taken c n)
    spread : (c : Course) (n : ℕ) (e : Entry) (new : List Entry) → IsCourse budget c → IsNext c n e → (WasTaken c e.state → ⊥) → is_goal t e.state ≡ false
        → length c.expanded < budget → Enters e (length t.ops) new → IsCourse budget (with_expanded c n new)

  -- ---- ends

  -- the next entry is new and meets the goal; these operators lead to it, and so many entries were expanded
  pub record EndsWithPlan (budget : ℕ) (ops : List ℕ) (expanded : ℕ) : Type 0 where
    pub course : Course
    pub is : IsCourse budget course
    pub number : ℕ
    pub entry : Entry
    pub next : IsNext course number entry
    pub new : WasTaken course entry.state → ⊥
    pub goal : is_goal t entry.state ≡ true
    pub ops_are : ops ≡ entry.ops
    pub expanded_are : expanded ≡ length course.expanded

  -- the next entry is new and doesn't meet the goal, and the budget is used up
  pub record EndsSpent (budget : ℕ) (expanded : ℕ) : Type 0 where
    pub course : Course
    pub is : IsCourse budget course
    pub number : ℕ
    pub entry : Entry
    pub next : IsNext course number entry
    pub new : WasTaken course entry.state → ⊥
    pub goal : is_goal t entry.state ≡ false
    pub full : length course.expanded ≡ budget
    pub expanded_are : expanded ≡ budget

  -- no entry waits
  pub record EndsWithoutPlan (budget : ℕ) : Type 0 where
    pub course : Course
    pub is : IsCourse budget course
    pub empty : (n : ℕ) (e : Entry) → Waits course n e → ⊥
