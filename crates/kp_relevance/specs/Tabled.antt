-- Relevance as rows of bits, one for each literal by its code. This file serves proofs alone.
use Rattle.std.specs.Prelude.{◌≡◌, ◌≢◌, ◌*◌, ◌<◌, ◌/◌, ◌%◌, ◌||◌, ◌&&◌, ℕ, Bool, true, false, cond, List, [], filter, flat_map, map, length, get_or, nat_eq, nat_lt}
use Rattle.std.specs.List.{All, list_any, range_with_len, sum_by}
use Rattle.kp_base.specs.declared.lit.Lit.{Lit}
use Rattle.kp_base.specs.declared.ground.Action.{Action}
use Rattle.kp_base.specs.declared.ground.Effect.{Effect}
use Rattle.kp_base.specs.Lit.{code_of, negated}

-- whether bit i of row j is set
abbrev pub marked : List (List Bool) → ℕ → ℕ → Bool
marked rows j i = get_or (get_or rows j []) i false

-- n rows of n bits
pub record IsSquare (n : ℕ) (rows : List (List Bool)) : Type 0 where
  pub many : length rows ≡ n
  pub bits : (j : ℕ) → j < n → length (get_or rows j []) ≡ n

-- a test on two numbers
abbrev pub Marks : Type 0
Marks = ℕ → ℕ → Bool

-- the bits of the new rows are those of the old ones and these
pub record AddsMarks (n : ℕ) (more : Marks) (old new : List (List Bool)) : Type 0 where
  pub square : IsSquare n new
  pub each : (j i : ℕ) → j < n → i < n → marked new j i ≡ (marked old j i || more j i)

-- what a step through k adds: bit i of row j, where row j has bit k and row k has bit i
abbrev pub through : ℕ → List (List Bool) → Marks
through k rows j i = marked rows j k && marked rows k i

-- marks lead from one number to another, over numbers below n
pub data Linked (n : ℕ) (f : Marks) : ℕ → ℕ → Type 0 where
  link : (j i : ℕ) → j < n → i < n → f j i ≡ true → Linked n f j i
  chain : (j k i : ℕ) → Linked n f j k → Linked n f k i → Linked n f j i

-- the marks are closed for the numbers below k: what is marked through one of them is marked
abbrev pub AreClosed : ℕ → ℕ → List (List Bool) → Type 0
AreClosed n k rows = (m j i : ℕ) → m < k → m < n → j < n → i < n → marked rows j m ≡ true → marked rows m i ≡ true → marked rows j i ≡ true

-- the new marks are the old ones, and as many more as they lead to through numbers below k
pub record Closes (n k : ℕ) (old new : List (List Bool)) : Type 0 where
  pub square : IsSquare n new
  pub kept : (j i : ℕ) → j < n → i < n → marked old j i ≡ true → marked new j i ≡ true
  pub closed : AreClosed n k new
  pub only : (j i : ℕ) → j < n → i < n → marked new j i ≡ true → Linked n (marked old) j i

-- ---- row by row

-- the row is closed: what is marked in the row of a number in it is in it
abbrev pub IsClosedRow : ℕ → List (List Bool) → List Bool → Type 0
IsClosedRow n rows row = (m i : ℕ) → m < n → i < n → get_or row m false ≡ true → marked rows m i ≡ true → get_or row i false ≡ true

-- the rows of these numbers are closed
abbrev pub AreClosedRows : ℕ → List Bool → List (List Bool) → Type 0
AreClosedRows n closed rows = (j : ℕ) → j < n → get_or closed j false ≡ true → IsClosedRow n rows (get_or rows j [])

-- the number is in the row, or marks lead to it from one that is
pub data LeadsTo (n : ℕ) (rows : List (List Bool)) (row : List Bool) : ℕ → Type 0 where
  there : (i : ℕ) → get_or row i false ≡ true → LeadsTo n rows row i
  linked : (m i : ℕ) → m < n → get_or row m false ≡ true → Linked n (marked rows) m i → LeadsTo n rows row i

-- the new row has what is in the old one, and no more than marks lead to from there
pub record Grows (n : ℕ) (rows : List (List Bool)) (old new : List Bool) : Type 0 where
  pub wide : length new ≡ n
  pub kept : (i : ℕ) → i < n → get_or old i false ≡ true → get_or new i false ≡ true
  pub only : (i : ℕ) → i < n → get_or new i false ≡ true → LeadsTo n rows old i

-- what is done is in the row, and so is all that is marked in the rows of what is done
pub record IsFollowed (n : ℕ) (rows : List (List Bool)) (row done : List Bool) : Type 0 where
  pub wide : length row ≡ n
  pub wide_done : length done ≡ n
  pub within : (i : ℕ) → i < n → get_or done i false ≡ true → get_or row i false ≡ true
  pub followed : (m i : ℕ) → m < n → i < n → get_or done m false ≡ true → marked rows m i ≡ true → get_or row i false ≡ true

-- a number that is in the row, and not done
pub record IsNext (n : ℕ) (row done : List Bool) (k : ℕ) : Type 0 where
  pub below : k < n
  pub there : get_or row k false ≡ true
  pub undone : get_or done k false ≡ false

-- how many bits are not set
abbrev pub unset : List Bool → ℕ
unset row = sum_by (λ b. cond b 0 1) row

-- row j has grown until it was closed, and the other rows are as they were
pub record ClosesRow (n j : ℕ) (old new : List (List Bool)) : Type 0 where
  pub square : IsSquare n new
  pub grows : Grows n old (get_or old j []) (get_or new j [])
  pub closed : IsClosedRow n old (get_or new j [])
  pub others : (r : ℕ) → r ≢ j → get_or new r [] ≡ get_or old r []

-- the new marks are the old ones and no more than they lead to, and the rows of these numbers are closed
pub record ClosesRows (n : ℕ) (closed : List Bool) (old new : List (List Bool)) : Type 0 where
  pub square : IsSquare n new
  pub wide : length closed ≡ n
  pub kept : (j i : ℕ) → j < n → i < n → marked old j i ≡ true → marked new j i ≡ true
  pub closed_rows : AreClosedRows n closed new
  pub only : (j i : ℕ) → j < n → i < n → marked new j i ≡ true → Linked n (marked old) j i

-- in the rows of these numbers no other number is marked
abbrev pub AreLone : ℕ → List (List Bool) → List Bool → Type 0
AreLone n rows lone = (m i : ℕ) → m < n → i < n → get_or lone m false ≡ true → marked rows m i ≡ true → m ≡ i

-- numbers in whose rows no other is marked, and rows that are written over in a search
pub record AreSpare (n : ℕ) (rows : List (List Bool)) (lone row done : List Bool) : Type 0 where
  pub alone : AreLone n rows lone
  pub wide_lone : length lone ≡ n
  pub wide : length row ≡ n
  pub wide_done : length done ≡ n

-- what a walk over the rows goes by: numbers below n
pub record IsWalk (n : ℕ) (seen left spare : List Bool) (way order : List ℕ) : Type 0 where
  pub wide : length seen ≡ n
  pub wide_left : length left ≡ n
  pub wide_spare : length spare ≡ n
  pub on_way : All (λ k. k < n) way
  pub ordered : All (λ k. k < n) order

-- ---- literals

-- the literal with a code
abbrev pub lit_of : ℕ → Lit
lit_of k = record { atom = record { 0 = k / 2 }; positive = nat_eq (k % 2) 0 }

-- the mark of one literal in the row of another
abbrev pub at_both : Lit → Lit → Marks
at_both l m j i = nat_eq j (code_of m) && nat_eq i (code_of l)

-- the same, and the mark of its negation in the row of the other's
abbrev pub at_pair : Lit → Lit → Marks
at_pair l m j i = at_both l m j i || at_both (negated l) (negated m) j i

-- the marks of an effect, and those of actions
abbrev pub marks_of : Effect → Marks
marks_of e j i = list_any (λ l. at_pair l e.result j i) e.cond

abbrev pub marks_of_all : List Action → Marks
marks_of_all acts j i = list_any (λ a. list_any (λ e. marks_of e j i) a.effects) acts

-- ---- pairs

-- the first literal is marked in the row of the second, where both are of the first n atoms
abbrev pub is_marked : ℕ → List (List Bool) → Lit → Lit → Bool
is_marked n rows l m = nat_lt l.atom.0 n && (nat_lt m.atom.0 n && marked rows (code_of m) (code_of l))

-- the literals of the first n atoms
abbrev pub literals_of : ℕ → List Lit
literals_of n = map lit_of (range_with_len 0 (2 * n))

-- the pairs of literals that are marked
abbrev pub pairs_of : ℕ → List (List Bool) → List (Lit × Lit)
pairs_of n rows = filter (λ (x : Lit × Lit). is_marked n rows x.0 x.1) (flat_map (λ l. map (λ m. (l, m)) (literals_of n)) (literals_of n))

-- as many rows as there are literals, and codes that a `u32` holds
pub record IsWide (n : ℕ) (rows : List (List Bool)) : Type 0 where
  pub few : 2 * n < 4294967296
  pub square : IsSquare (2 * n) rows
