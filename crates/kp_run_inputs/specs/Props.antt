-- That a table is right can be shown in one way, as a ghost field asks. This file serves proofs alone.
use Rattle.std.specs.Prelude.{◌≡◌, List, [], Option, Some}
use Rattle.std.specs.Coded.{Coded-set, coded_list, coded_option, le_prop}
use mathlib.Core.Bool.{Bool-set}
use mathlib.Core.HLevel.{is_prop→PathP}
use Rattle.kp_base.specs.contracts.lit.Lit as lit
use Rattle.kp_base.specs.contracts.ground.TagRow as tag_row
use Rattle.kp_base.specs.declared.ground.Ground.{Ground}
use Rattle.kp_base.specs.declared.ground.Initial.{Initial}
use Rattle.kp_base.specs.declared.ground.TagRow.{TagRow}
use Rattle.kp_base.specs.declared.ground.TagTable.{TagTable}
use Rattle.kp_base.specs.declared.lit.Lit.{Lit}
use Rattle.kp_base.specs.Entailed.{IsTable}

lits_set : IsSet (List Lit)
lits_set = Coded-set (coded_list lit.the_row.coded)

rows_set : IsSet (Option TagRow)
rows_set = Coded-set (coded_option tag_row.the_row.coded)

-- an option holds one row
one_row : (o : Option TagRow) → IsProp ((row : TagRow) × (o ≡ Some row) × (row.lits ≡ []))
one_row o a b =
    let e : a.0 ≡ b.0 = cc (a.1, b.1) in
    λ i. (e i, is_prop→PathP (λ j. o ≡ Some (e j)) (λ j. rows_set o (Some (e j))) a.1 b.1 i, is_prop→PathP (λ j. (e j).lits ≡ []) (λ j. lits_set (e j).lits []) a.2 b.2 i)

pub IsTable-prop : (g : Ground) (i : Initial) (table : TagTable) → IsProp (IsTable g i table)
IsTable-prop g i table = Prim.hlevel (one_row, le_prop, Bool-set)
