-- What the search keeps of a course: the contracts of `Search` are made of this, which crates above don't need.
use Rattle.std.specs.Prelude.{◌≡◌, ◌<◌, ◌+◌, ℕ, Bool, true, false, not, ◌&&◌, if◌then◌else◌, [], ◌∷◌, ◌++◌, Option, Some, None, nat_eq, length, slice_get}
use Rattle.kp_base.specs.Lists.{Member}
use Rattle.kp_classic.specs.declared.task.Task.{Task}
use Rattle.kp_classic.specs.States.{FactSet}
use Rattle.kp_search.specs.declared.course.Origin.{Origin}
use Rattle.kp_search.specs.declared.course.Origin.TheVariants.{Start, Step}
use Rattle.kp_search.specs.declared.course.Search.{Search}
use Rattle.kp_search.specs.declared.key.Key.{Key}
use Rattle.kp_search.specs.Queue.{same_key, times, PopsFirst}
use Rattle.kp_search.specs.Trace.{Entry, Course, first, step, is_taken}

-- one more entry, behind those that are there
pub record Adds (old : Search) (o : Origin) (h : ℕ) (new : Search) : Type 0 where
  pub origins : new.origins.items ≡ old.origins.items ++ o ∷ []
  pub waiting : (y : Key) → times new.waiting y ≡ (if same_key y (record { estimate = h; number = length old.origins.items }) then 1 else 0) + times old.waiting y
  pub len : length new.waiting ≡ length old.waiting + 1
  pub expanded : new.expanded.items ≡ old.expanded.items
  pub estimates : new.estimates.items ≡ old.estimates.items
  pub table : new.table ≡ old.table

-- an entry comes from there
abbrev pub ComesFrom : Task → Course → ℕ → Entry → Origin → Type 0
ComesFrom t c n e Start = (e.state ≡ first t) × (e.ops ≡ [])
ComesFrom t c n e (Step k op) =
    (m : ℕ) × (d : Entry) × (slice_get c.expanded k ≡ Some m) × (slice_get c.entries m ≡ Some d) × (m < n) × (op < length t.ops)
    × (e.state ≡ step t op d.state) × (e.ops ≡ d.ops ++ op ∷ [])

-- the entry's estimate is that of the key
abbrev pub fits_key : Option Entry → ℕ → Bool
fits_key None h = false
fits_key (Some e) h = nat_eq e.estimate h

-- the key is that of an entry that waits
abbrev pub waits : Course → Key → Bool
waits c y = fits_key (slice_get c.entries y.number) y.estimate && not (is_taken c y.number)

-- what is kept is what the course is
pub record Keeps (t : Task) (c : Course) (s : Search) : Type 0 where
  pub long : length s.origins.items ≡ length c.entries
  pub origins : (n : ℕ) (e : Entry) → slice_get c.entries n ≡ Some e → (o : Origin) × (slice_get s.origins.items n ≡ Some o) × ComesFrom t c n e o
  pub waiting : (y : Key) → times s.waiting y ≡ (if waits c y then 1 else 0)
  pub expanded : s.expanded.items ≡ c.expanded
  pub facts : s.table.facts ≡ length t.facts
  pub tables : length s.table.states ≡ length c.expanded
  pub states : (k n : ℕ) (e : Entry) → slice_get c.expanded k ≡ Some n → slice_get c.entries n ≡ Some e → slice_get s.table.states k ≡ Some e.state
  -- what was taken is an entry, and so is what was expanded
  pub taken : (n : ℕ) → is_taken c n ≡ true → n < length c.entries
  pub within : (k n : ℕ) → slice_get c.expanded k ≡ Some n → n < length c.entries

-- the first of the waiting comes out
pub record Pops (old : Search) (key : Key) (new : Search) : Type 0 where
  pub first : PopsFirst old.waiting key new.waiting
  pub origins : new.origins.items ≡ old.origins.items
  pub expanded : new.expanded.items ≡ old.expanded.items
  pub estimates : new.estimates.items ≡ old.estimates.items
  pub table : new.table ≡ old.table

-- one more entry is expanded, whose key this was
pub record Expands (old : Search) (key : Key) (s : FactSet) (new : Search) : Type 0 where
  pub expanded : new.expanded.items ≡ old.expanded.items ++ key.number ∷ []
  pub estimates : new.estimates.items ≡ old.estimates.items ++ key.estimate ∷ []
  pub states : new.table.states ≡ old.table.states ++ s ∷ []
  pub facts : new.table.facts ≡ old.table.facts
  pub room : new.table.room ≡ old.table.room
  pub origins : new.origins.items ≡ old.origins.items
  pub waiting : new.waiting ≡ old.waiting

-- one more entry is expanded, unless its state is there
abbrev pub ExpandsIfNew : Search → Key → FactSet → Bool → Search → Type 0
ExpandsIfNew old key s true new = (Member old.table.states s → ⊥) × Expands old key s new
ExpandsIfNew old key s false new = Member old.table.states s × (new ≡ old)

-- nothing was entered
pub record IsEmpty (facts : ℕ) (s : Search) : Type 0 where
  pub origins : s.origins.items ≡ []
  pub waiting : s.waiting ≡ []
  pub expanded : s.expanded.items ≡ []
  pub estimates : s.estimates.items ≡ []
  pub facts_are : s.table.facts ≡ facts
  pub states : s.table.states ≡ []
