-- A queue of keys: how often each stands there, and which is first.
use Rattle.std.specs.Prelude.{◌≡◌, ◌<◌, ◌≤◌, ◌⊎◌, ◌+◌, ℕ, Bool, ◌&&◌, if◌then◌else◌, List, length, nat_eq}
use Rattle.std.specs.List.{count_by}
use Rattle.kp_search.specs.declared.key.Key.{Key}

-- the two are one key
abbrev pub same_key : Key → Key → Bool
same_key x y = nat_eq x.estimate y.estimate && nat_eq x.number y.number

-- how often a key stands in the queue
abbrev pub times : List Key → Key → ℕ
times xs y = count_by (same_key y) xs

-- the one is taken first, or they are one
abbrev pub IsBefore : Key → Key → Type 0
IsBefore x y = (x.estimate < y.estimate) ⊎ ((x.estimate ≡ y.estimate) × (x.number ≤ y.number))

-- a key leaves that none is before
pub record PopsFirst (old : List Key) (key : Key) (new : List Key) : Type 0 where
  pub leaves : (y : Key) → times old y ≡ (if same_key y key then 1 else 0) + times new y
  pub first : (y : Key) → 0 < times new y → IsBefore key y
  pub len : length new + 1 ≡ length old
