-- The table of a source is right, and its merges are valid; and in some modes it is complete.
use Rattle.std.proofs.Common.{◌≡◌, ℕ, List, refl, subst}
use Rattle.kp_base.specs.declared.ground.Ground.{Ground}
use Rattle.kp_base.specs.declared.ground.Initial.{Initial}
use Rattle.kp_base.specs.declared.ground.TagTable.{TagTable}
use Rattle.kp_base.specs.declared.limits.Mode.{Mode}
use Rattle.kp_tags.specs.Made.{IsMade}
use Rattle.kp_tags.proofs.Public.{made_tables_are_right, made_tables_are_complete, accepted_tables_are_right}
use Rattle.kp_words.specs.Asked.{Source, of_mode}
use Rattle.kp_run_prepare.specs.Prepared.{usual}
use Rattle.kp_run_inputs.specs.SourceTables.{HasTable, by_mode, by_file}
use Rattle.kp_run_inputs.specs.Laws.{TablesAreRight, SomeTablesAreComplete}

pub tables_right : TablesAreRight
tables_right g i _ _ table own (by_mode mode _ made) = made_tables_are_right mode usual g i table own made
tables_right g i _ _ table own (by_file name text ms _ short read fine) = accepted_tables_are_right g i ms table fine.acceptable fine.is_table

-- the table of a mode is made of its merges
made_of_mode : (g : Ground) (i : Initial) (source : Source) (merges : List (List ℕ)) (table : TagTable) (mode : Mode) → source ≡ of_mode mode → HasTable g i source merges table → IsMade mode usual g i table
made_of_mode g i _ _ table mode e (by_mode m _ made) = subst (λ k. IsMade k usual g i table) (same e) made
  where
    same : of_mode m ≡ of_mode mode → m ≡ mode
    same f = cc
made_of_mode g i _ _ table mode e (by_file name text ms _ short read fine) = absurd cc

pub tables_complete : SomeTablesAreComplete
tables_complete g i mode merges table each own has = made_tables_are_complete mode usual g i table each own (made_of_mode g i (of_mode mode) merges table mode refl has)
