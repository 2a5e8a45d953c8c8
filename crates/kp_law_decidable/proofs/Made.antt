-- Each mode has a table, or a refusal.
use Rattle.std.proofs.Common.{◌≡◌, ℕ, true, List, Ok, Err, length, inl, inr, refl}
use Rattle.std.specs.List.{list_all}
use Rattle.kp_base.specs.declared.ground.Ground.{Ground}
use Rattle.kp_base.specs.declared.ground.Initial.{Initial}
use Rattle.kp_base.specs.declared.limits.Mode.{Mode}
use Rattle.kp_base.specs.declared.refused.Stop.TheVariants as stops
use Rattle.kp_base.proofs.Lists.{all_from}
use Rattle.kp_tags_files.specs.declared.merge.FileMerge.{FileMerge}
use Rattle.kp_tags_modes.specs.Modes.{way_of, AreMergesOf}
use Rattle.kp_tags_modes.proofs.Public.{merges_of_modes_are_good}
use Rattle.kp_tags.specs.MergeTables.{has_tags_of_atoms}
use Rattle.kp_tags.specs.Made.{RefusesMade}
use Rattle.kp_tags.proofs.Public.{table_or_refusal_of_mode}
use Rattle.kp_law_decidable.specs.Laws.{AreProper, MadeTablesAreDecided}
use Rattle.kp_law_decidable.proofs.Moded.{modes_decided}
use Rattle.kp_law_decidable.proofs.Tabling.{tables_decided}

-- the tags of a mode's merges are of the atoms
of_atoms : (mode : Mode) (limit : ℕ) (g : Ground) (i : Initial) (ms : List FileMerge) → AreProper g i → AreMergesOf limit g i (way_of mode) ms → list_all (has_tags_of_atoms (length g.atoms)) ms ≡ true
of_atoms mode limit g i ms proper are = all_from (has_tags_of_atoms (length g.atoms)) ms (λ m there. (merges_of_modes_are_good mode limit g i ms proper.own_atoms are m there).of_atoms)

pub made_decided : MadeTablesAreDecided
made_decided mode limits g i proper = elim (modes_decided mode limits.sets g i proper) [
  | inr r ↦ inr (r.0, RefusesMade.by_mode r.0 r.1)
  | inl ms ↦ elim (tables_decided (length g.atoms) i ms.0 limits.tags proper.over (of_atoms mode limits.sets g i ms.0 proper ms.1)) [
    | inl t ↦ inl (t.0, table_or_refusal_of_mode mode limits g i ms.0 proper.own_atoms ms.1 (length g.atoms) (Ok t.0) refl t.1)
    | inr r ↦ inr (r.0, table_or_refusal_of_mode mode limits g i ms.0 proper.own_atoms ms.1 (length g.atoms) (Err (stops.Refused r.0)) refl r.1)
  ]
]
