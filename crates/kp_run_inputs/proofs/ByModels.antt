-- Which table a source has goes by the models alone.
use Rattle.std.proofs.Common.{ℕ, List, Ok, Err, length}
use Rattle.kp_base.specs.declared.ground.Ground.{Ground}
use Rattle.kp_base.specs.declared.ground.Initial.{Initial}
use Rattle.kp_base.specs.declared.ground.TagTable.{TagTable}
use Rattle.kp_base.specs.declared.refused.Refused.{Refused}
use Rattle.kp_base.specs.declared.refused.Stop.TheVariants as causes
use Rattle.kp_base.specs.Entailed.{HaveSameModels}
use Rattle.kp_tags.proofs.Public.{tables_go_by_models, made_tables_go_by_models}
use Rattle.kp_run_messages.specs.Refusals.{Nameable}
use Rattle.kp_words.specs.Asked.{Source}
use Rattle.kp_run_prepare.specs.Prepared.{usual}
use Rattle.kp_run_inputs.specs.SourceTables.{HasTable, by_mode, by_file, RefusesSource, of_its_mode, long_file, no_merges, bad_merges}
use Rattle.kp_run_inputs.specs.Laws.{SourcesGoByModels}

module _ (g : Ground) (i j : Initial) (same : HaveSameModels i j) where
  table_by : (source : Source) (merges : List (List ℕ)) (t : TagTable) → HasTable g i source merges t → HasTable g j source merges t
  table_by _ _ t (by_mode mode _ made) = by_mode mode t (made_tables_go_by_models mode usual g i j (Ok t) same made)
  table_by _ _ t (by_file name text ms _ short read fine) = by_file name text ms t short read (tables_go_by_models (length g.atoms) i j ms usual.tags (Ok t) same fine)

  refusal_by : (source : Source) (merges : List (List ℕ)) (a : Nameable) (r : Refused) → RefusesSource g i source merges a r → RefusesSource g j source merges a r
  refusal_by _ _ _ r (of_its_mode mode _ fault) = of_its_mode mode r (made_tables_go_by_models mode usual g i j (Err (causes.Refused r)) same fault)
  refusal_by _ _ _ _ (long_file name text long) = long_file name text long
  refusal_by _ _ _ r (no_merges name text _ short fault) = no_merges name text r short fault
  refusal_by _ _ _ r (bad_merges name text ms _ short read fault) = bad_merges name text ms r short read (tables_go_by_models (length g.atoms) i j ms usual.tags (Err (causes.Refused r)) same fault)

pub alike : SourcesGoByModels
alike g i j source merges same = record { tables = table_by g i j same source merges; refusals = refusal_by g i j same source merges }
