-- Atoms as bits of words: those that an action adds, those that it surely deletes, those that literals leave, and some that no pair has. Beside proofs it serves the contracts that cite `Notes`, `AreLeft`, `all_asked`, `all_added`, `AreLone`, `AreDeleted`, `HasBreaking`.
use Rattle.std.specs.Prelude.{◌≡◌, ◌≤◌, ◌<◌, ◌/◌, ◌%◌, ◌⊎◌, ℕ, Bool, true, false, not, ◌||◌, List, Option, Some, None, nat_lt}
use Rattle.std.specs.Int.{bit_at}
use Rattle.std.specs.List.{list_all, list_any}
use Rattle.kp_base.specs.declared.lit.AtomId.{AtomId}
use Rattle.kp_base.specs.declared.lit.Lit.{Lit}
use Rattle.kp_base.specs.declared.ground.Effect.{Effect}
use Rattle.kp_base.specs.declared.ground.Action.{Action}
use Rattle.kp_base.specs.Lit.{positive}
use Rattle.kp_base.specs.Clashes.{Pairs, are_exclusive}
use Rattle.kp_bits.specs.Packed.{bit_in, bit_of}
use Rattle.kp_clash_exclusive.specs.declared.tables.Tables.{Tables}
use Rattle.kp_clash_exclusive.specs.Between.{AreBetween}
use Rattle.kp_clash_exclusive.specs.Settled.{deletes_within}
use Rattle.kp_clash_exclusive.specs.Removed.{breaks}

-- ---- atoms that are added

-- what was set is set still
abbrev pub KeepsBits : List ℕ → List ℕ → Type 0
KeepsBits old new = (q : ℕ) → bit_in old q ≡ 1 → bit_in new q ≡ 1

-- the atom isn't below 65,536, or its bit is set
abbrev pub is_set : List ℕ → ℕ → Bool
is_set words p = not (nat_lt p 65536) || bit_of words p

-- the effect adds no atom, or one that is set
abbrev pub is_added : List ℕ → Effect → Bool
is_added words e = not e.result.positive || is_set words e.result.atom.0

abbrev pub all_added : List ℕ → List Effect → Bool
all_added words es = list_all (is_added words) es

-- ---- atoms that a precondition asks for

-- the literal is negative, or its atom is set
abbrev pub is_asked : List ℕ → Lit → Bool
is_asked words l = not l.positive || is_set words l.atom.0

abbrev pub all_asked : List ℕ → List Lit → Bool
all_asked words ls = list_all (is_asked words) ls

-- ---- atoms that are surely deleted

-- no other bit was set
abbrev pub AddsBit : List ℕ → List ℕ → ℕ → Type 0
AddsBit old new p = (q : ℕ) → bit_in new q ≡ 1 → (bit_in old q ≡ 1) ⊎ (p ≡ q)

-- where the bit is set, the action has a delete of the atom whose condition is within the precondition
abbrev pub AreDeleted : List ℕ → Action → Type 0
AreDeleted words a = (q : ℕ) → bit_in words q ≡ 1 → deletes_within a q a.pre ≡ true

-- what is noted of an action: between which places its deletes stand, the atoms that it asks for, those that it adds, and those that it surely deletes
pub record AreNoted (firsts ends asked added sure : List ℕ) (a : Action) : Type 0 where
  pub deletes : AreBetween firsts ends a.effects
  pub asks : all_asked asked a.pre ≡ true
  pub adds : all_added added a.effects ≡ true
  pub deletes_surely : AreDeleted sure a

-- the same of these tables
abbrev pub Notes : Tables → Action → Type 0
Notes t a = AreNoted t.firsts t.ends t.asked t.added t.sure a

-- ---- atoms that are left

-- where the effect breaks a pair with one of the 64 atoms from 64 k on, its bit is set
abbrev pub HasBreaking : Pairs → Action → Effect → ℕ → ℕ → Type 0
HasBreaking pairs a e k word = (q : ℕ) → q / 64 ≡ k → breaks pairs a e q ≡ true → bit_at word (q % 64) ≡ 1

-- of the word of the atoms from 64 k on, the bits stay whose atoms no literal excludes
abbrev pub KeepsFree : Pairs → List Lit → ℕ → ℕ → ℕ → Type 0
KeepsFree pairs lits k old new = (q : ℕ) → q / 64 ≡ k → list_any (λ l. are_exclusive pairs l (positive q)) lits ≡ false → bit_at old (q % 64) ≡ 1 → bit_at new (q % 64) ≡ 1

-- the bits are set of the atoms below 65,536 that neither precondition nor condition excludes
abbrev pub AreLeft : Pairs → List Lit → List Lit → List ℕ → Type 0
AreLeft pairs pre cs words = (q : ℕ) → q < 65536 → list_any (λ l. are_exclusive pairs l (positive q)) pre ≡ false → list_any (λ l. are_exclusive pairs l (positive q)) cs ≡ false → bit_in words q ≡ 1

-- where the bit is set, no pair has the atom
abbrev pub AreLone : Pairs → List ℕ → Type 0
AreLone pairs words = (p : ℕ) → bit_in words p ≡ 1 → (q : ℕ) → pairs p q ≡ false

-- the other atom of a pair that the effect breaks alone, among the 64 from 64 k on and from this atom on; or there is none
abbrev pub FindsInWord : Pairs → Action → Effect → ℕ → ℕ → Option AtomId → Type 0
FindsInWord pairs a e from k (Some q) = (breaks pairs a e q.0 ≡ true) × (q.0 < 4294967295)
FindsInWord pairs a e from k None = (q : ℕ) → q / 64 ≡ k → from ≤ q → breaks pairs a e q ≡ false
