-- Which table a mode has, and which targets a table leaves uncovered, goes by the models alone.
use Rattle.std.proofs.Common.{List, [], ◌∷◌, Ok, Err, length, ◌∙◌}
use Rattle.kp_base.specs.declared.lit.Lit.{Lit}
use Rattle.kp_base.specs.declared.ground.Ground.{Ground}
use Rattle.kp_base.specs.declared.ground.Initial.{Initial}
use Rattle.kp_base.specs.declared.ground.TagTable.{TagTable}
use Rattle.kp_base.specs.declared.refused.Stop.TheVariants as stops
use Rattle.kp_base.specs.Covering.{Covers, IsCovered}
use Rattle.kp_base.specs.Entailed.{HaveSameModels}
use Rattle.kp_tags_modes.specs.Modes.{way_of}
use Rattle.kp_tags_modes.proofs.Public.{same_models_back, candidate_by_models as candidate, merges_by_models, mode_refusal_by_models}
use Rattle.kp_tags.specs.Made.{RefusesMade}
use Rattle.kp_tags.specs.Laws.{TablesMadeGoByModels, CoverageGoesByModels}
use Rattle.kp_tags.proofs.ByModels.{table_of}

-- ---- covers

covers_by : (g : Ground) (i j : Initial) → HaveSameModels i j → (tags : List (List Lit)) (target : Lit) → Covers g i tags target → Covers g j tags target
covers_by g i j same tags target h tag c m is =
    let met = h tag c m (record { candidate = candidate j i (same_models_back i j same) (length g.atoms) c is.candidate; relevant = is.relevant }) in
    record { lit = met.lit; of_clause = met.of_clause; entailed = λ s model. met.entailed s (same s ∙ model) }

covered_by : (g : Ground) (i j : Initial) → HaveSameModels i j → (table : TagTable) (target : Lit) → IsCovered g i table target → IsCovered g j table target
covered_by g i j same table target (IsCovered.by_empty_tag h) = IsCovered.by_empty_tag (covers_by g i j same ([] ∷ []) target h)
covered_by g i j same table target (IsCovered.by_merge m in-table of_target valid h) = IsCovered.by_merge m in-table of_target (λ s model. valid s (same s ∙ model)) (covers_by g i j same _ target h)

pub coverage_by_models : CoverageGoesByModels
coverage_by_models g i j table ls same h = record {
  exact = λ l. (
    λ m. let u = (h.exact l).0 m in (u.0, λ c. u.1 (covered_by g j i (same_models_back i j same) table l c)),
    λ u. (h.exact l).1 (u.0, λ c. u.1 (covered_by g i j same table l c)),
  );
  ascending = h.ascending;
}

-- ---- tables

pub made_by_models : TablesMadeGoByModels
made_by_models mode limits g i j (Ok table) same h = record {
  merges = h.merges;
  of_mode = merges_by_models limits.sets g i j same (way_of mode) h.merges h.of_mode;
  within_limit = h.within_limit;
  is_table = table_of i j same (length g.atoms) h.merges table h.is_table;
}
made_by_models mode limits g i j (Err (stops.Refused r)) same (RefusesMade.by_mode _ h) = RefusesMade.by_mode r (mode_refusal_by_models limits.sets g i j same (way_of mode) r h)
made_by_models mode limits g i j (Err (stops.Refused _)) same (RefusesMade.tags_over ms h over) = RefusesMade.tags_over ms (merges_by_models limits.sets g i j same (way_of mode) ms h) over
made_by_models mode limits g i j (Err stops.Memory) same h = tt
