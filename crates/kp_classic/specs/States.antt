-- States: how many facts there are, and which of them hold.
use Rattle.std.specs.Prelude.{◌≡◌, ◌<◌, ℕ, Bool, true, false, List, nat_eq, filter}
use Rattle.std.specs.List.{list_any, range_with_len}

-- the number of facts, and those that hold, ascending
pub record FactSet : Type 0 where
  pub facts : ℕ
  pub hold : List ℕ

-- the fact stands in the list
abbrev pub has : List ℕ → ℕ → Bool
has fs f = list_any (nat_eq f) fs

-- those of the first n facts that hold, ascending
abbrev pub holding_among : ℕ → (ℕ → Bool) → List ℕ
holding_among n s = filter s (range_with_len 0 n)

-- the state of n facts in which these hold
abbrev pub fact_set_of : ℕ → (ℕ → Bool) → FactSet
fact_set_of n s = record { facts = n; hold = holding_among n s }

-- at the first fact in which the two differ, the second has it
pub record IsBefore (a b : FactSet) : Type 0 where
  pub fact : ℕ
  pub absent : has a.hold fact ≡ false
  pub present : has b.hold fact ≡ true
  pub same_before : (f : ℕ) → f < fact → has a.hold f ≡ has b.hold f
