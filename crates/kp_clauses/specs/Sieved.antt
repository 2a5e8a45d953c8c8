-- Lists of the places of clauses, by one literal of each. Beside proofs it serves the contracts that cite `IsMark`, `common_at`, `stands`.
use Rattle.std.specs.Prelude.{◌≡◌, ◌+◌, ◌%◌, ℕ, Bool, false, not, ◌&&◌, cond, List, [], ◌∷◌, Option, None, Some, map, slice_get, nat_eq}
use Rattle.std.specs.Int.{bit_at}
use Rattle.std.specs.Int.RustNames.{bit_or}
use Rattle.kp_base.specs.declared.lit.Lit.{Lit}
use Rattle.kp_base.specs.Planning.{Member, code_of}
use Rattle.kp_base.specs.Steps.{has}
use Rattle.kp_base.specs.Implicates.{is_within}
use Rattle.kp_clauses.specs.Listed.{row}
use Rattle.kp_clauses.specs.Resolved.{common}
use Rattle.kp_clauses.specs.declared.sieve.Spot.{Spot}

-- a word has the bits of the literals' codes and no others
pub record IsMark (c : List Lit) (word : ℕ) : Type 0 where
  pub has : (l : Lit) → Member c l → bit_at word (code_of l % 64) ≡ 1
  pub from : (j : ℕ) → bit_at word j ≡ 1 → (l : Lit) × Member c l × (code_of l % 64 ≡ j)

-- the number of a literal's list
abbrev pub key_of : Lit → ℕ
key_of l = code_of l % 4096 + 1

-- the lists where a clause may be: that of each literal, and the first, which is for the empty clause
abbrev pub keys : List Lit → List ℕ
keys c = 0 ∷ map key_of c

-- the clause at a place passes a test
abbrev pub stands : (List Lit → Bool) → Option (List Lit) → Bool
stands test None = false
stands test (Some d) = test d

-- the mark of a spot is within this one, and the clause there passes a test
abbrev pub passes : List (List Lit) → (List Lit → Bool) → ℕ → Spot → Bool
passes cs test word s = nat_eq (bit_or s.mark word) word && stands test (slice_get cs s.place)

-- it is within this one
abbrev pub tried : List (List Lit) → List Lit → ℕ → Spot → Bool
tried cs c word s = passes cs (λ d. is_within d c) word s

-- a clause is within another, and lacks a literal
abbrev pub lacks : List Lit → Lit → List Lit → Bool
lacks c x d = is_within d c && not (has d x)

-- what a set and the clause at a place have in common
abbrev pub common_at : List Lit → Option (List Lit) → List Lit
common_at set None = set
common_at set (Some d) = common set d

-- what is left of a set: where the clause of a spot is within this one, what it has; else all
abbrev pub narrowed : List (List Lit) → List Lit → ℕ → List Lit → Spot → List Lit
narrowed cs c word set s = cond (tried cs c word s) (common_at set (slice_get cs s.place)) set

-- a clause's place and mark stand in one of its lists
pub record IsListed (lists : List (List Spot)) (i : ℕ) (c : List Lit) : Type 0 where
  pub key : ℕ
  pub own : Member (keys c) key
  pub spot : Spot
  pub there : Member (row lists key) spot
  pub place : spot.place ≡ i
  pub mark : IsMark c spot.mark

-- each clause's do
pub record AreListed (lists : List (List Spot)) (cs : List (List Lit)) : Type 0 where
  pub each : (i : ℕ) (c : List Lit) → slice_get cs i ≡ Some c → IsListed lists i c

-- nothing is lost from the lists
pub record AreKept (old new : List (List Spot)) : Type 0 where
  pub each : (k : ℕ) (s : Spot) → Member (row old k) s → Member (row new k) s

-- the words are marks of the clauses, in order, and there may be more of them
abbrev pub AreMarked : List ℕ → List (List Lit) → Type 0
AreMarked ws [] = Unit {0}
AreMarked [] (c ∷ cs) = ⊥
AreMarked (w ∷ ws) (c ∷ cs) = IsMark c w × AreMarked ws cs

-- what always holds of a sieve
pub record IsSieve (lists : List (List Spot)) (marks : List ℕ) (cs : List (List Lit)) : Type 0 where
  pub listed : AreListed lists cs
  pub marked : AreMarked marks cs

-- the mark at a place lacks a bit of this one
pub record IsUnlike (marks : List ℕ) (place word : ℕ) : Type 0 where
  pub other : ℕ
  pub there : slice_get marks place ≡ Some other
  pub unlike : nat_eq (bit_or word other) other ≡ false
