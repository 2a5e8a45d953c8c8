-- What formulas with the same models have in common.
use Rattle.std.specs.Prelude.{ℕ, List, length}
use Rattle.kp_base.specs.declared.lit.Lit.{Lit}
use Rattle.kp_base.specs.declared.ground.Ground.{Ground}
use Rattle.kp_base.specs.declared.ground.Initial.{Initial}
use Rattle.kp_base.specs.declared.ground.Merge.{Merge}
use Rattle.kp_base.specs.declared.ground.TagTable.{TagTable}
use Rattle.kp_base.specs.declared.refused.ClashAt.{ClashAt}
use Rattle.kp_base.specs.Entailed.{IsConsistent, IsClosure, HaveSameModels, IsValid, IsTable}
use Rattle.kp_base.specs.Clashes.{Pairs}
use Rattle.kp_base.specs.Exclusive.{AreExclusive, ClashesFirst, IsClashFree}

-- what is so by one formula is so by the other: closures, consistent tags, valid merges, right tables, exclusive pairs, the first clash, and that there is none
pub record SayTheSame (g : Ground) (i j : Initial) : Type 0 where
  pub closures : (atoms : ℕ) (tag closure : List Lit) → IsClosure atoms i tag closure → IsClosure atoms j tag closure
  pub consistent : (tag : List Lit) → IsConsistent i tag → IsConsistent j tag
  pub valid : (table : TagTable) (m : Merge) → IsValid i table m → IsValid j table m
  pub tables : (table : TagTable) → IsTable g i table → IsTable g j table
  pub exclusive : (pairs : Pairs) → AreExclusive g i (length g.atoms) pairs → AreExclusive g j (length g.atoms) pairs
  pub first_clash : (c : ClashAt) → ClashesFirst g i c → ClashesFirst g j c
  pub clash_free : IsClashFree g i → IsClashFree g j

-- formulas with the same models say the same
abbrev pub SameModelsSayTheSame : Type 0
SameModelsSayTheSame = (g : Ground) (i j : Initial) → HaveSameModels i j → SayTheSame g i j
