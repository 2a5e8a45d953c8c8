-- How a shelf in memory keeps its contents. For proofs alone: no caller sees it.
use Rattle.std.specs.Prelude.{ℕ, List, map, Vec}
use Rattle.std.specs.BTreeMap.{BTreeMap}
use Rattle.std.specs.FinMap as finite
use Rattle.std.specs.declared.alloc.Global.{Global}
use Rattle.kp_outside.specs.Outside.{FileMap}

-- the finite map of a tree's entries
abbrev pub files : BTreeMap (Vec ℕ Global) (List ℕ) → FileMap
files tree = finite.from_entries (map (λ e. (e.0.items, e.1)) tree.entries)
