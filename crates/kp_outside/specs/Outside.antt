-- What a shelf holds and a sink was told, what their calls change, and how their counts of faults move.
use Rattle.std.specs.Prelude.{◌≡◌, ◌<◌, ◌≤◌, ◌⊎◌, ℕ, ◌-◌, ◌^◌, List, ◌++◌, length, take, nat_lt, Option, Some, None, Result, Ok, Err, IsTrue}
use Rattle.std.specs.Option.{option_map}
use Rattle.std.specs.Ordering.{nat_cmp}
use Rattle.std.specs.Cmp.Lexicographic.{slice_cmp}
use Rattle.std.specs.FinMap as map
use Rattle.kp_outside.specs.declared.outside.OutsideStop.{OutsideStop}
use Rattle.kp_outside.specs.declared.outside.OutsideStop.TheVariants.{Failed, Memory}
use Rattle.kp_outside.specs.declared.outside.Got.{Got}

-- what a shelf holds: names with their contents, each a list of bytes and each name at most once
abbrev pub FileMap : Type 0
FileMap = map.FinMap (slice_cmp nat_cmp) (List ℕ)

-- where a count stops
abbrev pub last_count : ℕ
last_count = 2 ^ 64 - 1

-- a count rose, or stood and stands where it stops
abbrev pub Rises : ℕ → ℕ → Type 0
Rises old new = (old < new) ⊎ ((old ≡ last_count) × (new ≡ last_count))

-- the counts of all names over a call on one name: its own rises where the call failed, none ever falls, and else none changes
abbrev pub Counts : {T : Type 0} → Result T OutsideStop → List ℕ → (List ℕ → ℕ) → (List ℕ → ℕ) → Type 0
Counts (Ok x) name old new = (q : List ℕ) → new q ≡ old q
Counts (Err Memory) name old new = (q : List ℕ) → new q ≡ old q
Counts (Err Failed) name old new = Rises (old name) (new name) × ((q : List ℕ) → old q ≤ new q)

-- the one count of a sink over a write: it rises where the write failed, and else stays
abbrev pub Counted : {T : Type 0} → Result T OutsideStop → ℕ → ℕ → Type 0
Counted (Ok x) old new = new ≡ old
Counted (Err Memory) old new = new ≡ old
Counted (Err Failed) old new = Rises old new

-- the first bytes of a content, at most that many, and whether there are more; without a content nothing is a front
abbrev pub IsFront : Option (List ℕ) → ℕ → Got → Type 0
IsFront None most got = ⊥
IsFront (Some content) most got = (got.bytes ≡ take most content) × (got.more ≡ nat_lt most (length content))

-- where the contents are told, the name is held and this is the front of its content
abbrev pub Gets : Option FileMap → List ℕ → ℕ → Got → Type 0
Gets None name most got = Unit {0}
Gets (Some m) name most got = IsFront (map.get m name) most got

-- at most that many bytes, and just that many where there are more
abbrev pub IsWithin : ℕ → Got → Type 0
IsWithin most got = (length got.bytes ≤ most) × (IsTrue got.more → length got.bytes ≡ most)

-- what is held, with this content under the name
abbrev pub with_file : Option FileMap → List ℕ → List ℕ → Option FileMap
with_file held name bytes = option_map (λ m. map.insert m name bytes) held

-- what is held under all other names
abbrev pub without_file : Option FileMap → List ℕ → Option FileMap
without_file held name = option_map (λ m. map.remove m name) held

-- what is told, with these bytes at the end
abbrev pub with_bytes : Option (List ℕ) → List ℕ → Option (List ℕ)
with_bytes told bytes = option_map (λ t. t ++ bytes) told

-- some of the first bytes were added at the end, and no others
abbrev pub AddsFront : Option (List ℕ) → Option (List ℕ) → List ℕ → Type 0
AddsFront old new bytes = (k : ℕ) × (new ≡ with_bytes old (take k bytes))
