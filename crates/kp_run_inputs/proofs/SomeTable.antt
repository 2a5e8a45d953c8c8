-- A source has a table or a refusal.
use Rattle.std.proofs.Common.{◌⊎◌, ℕ, List, [], ◌∷◌, length, inl, inr, arith}
use Rattle.std.proofs.lemmas.Bool.{cases_lt}
use Rattle.kp_base.specs.declared.ground.Ground.{Ground}
use Rattle.kp_base.specs.declared.ground.Initial.{Initial}
use Rattle.kp_base.specs.declared.ground.TagTable.{TagTable}
use Rattle.kp_base.specs.declared.limits.Mode.{Mode}
use Rattle.kp_base.specs.declared.refused.Part.TheVariants as parts
use Rattle.kp_base.specs.declared.refused.Refused.{Refused}
use Rattle.kp_base.specs.declared.refused.Refused.TheVariants as refusals
use Rattle.kp_tags_files.proofs.Public.{merges_always_one}
use Rattle.kp_law_decidable.specs.Laws.{AreProper}
use Rattle.kp_law_decidable.proofs.Public.{tables_decided, made_decided}
use Rattle.kp_run_messages.specs.Refusals.{Nameable, nothing}
use Rattle.kp_base.specs.Files.{most_bytes}
use Rattle.kp_words.specs.Asked.{Source, of_mode, of_file}
use Rattle.kp_run_prepare.specs.Refusing.{named_in}
use Rattle.kp_run_prepare.specs.Prepared.{usual}
use Rattle.kp_run_inputs.specs.SourceTables.{HasTable, by_mode, by_file, RefusesSource, of_its_mode, long_file, no_merges, bad_merges}
use Rattle.kp_run_inputs.specs.Laws.{SourcesAreDecided}
use Rattle.kp_run_inputs.proofs.FileMerges.{tags_of_atoms}

module _ (g : Ground) (i : Initial) (proper : AreProper g i) where
  abbrev Decided : Source → List (List ℕ) → Type 0
  Decided source merges = ((t : TagTable) × HasTable g i source merges t) ⊎ ((a : Nameable) × (r : Refused) × RefusesSource g i source merges a r)

  of_text : (name text : List ℕ) → Decided (of_file name) (text ∷ [])
  of_text name text = elim (cases_lt most_bytes (length text)) [
    | inl long ↦ inr (nothing, refusals.TooLong parts.Merges, long_file name text long)
    | inr short ↦ elim (merges_always_one g.atoms text) [
      | inr r ↦ inr (nothing, r.0, no_merges name text r.0 short r.1)
      | inl ms ↦ elim (tables_decided (length g.atoms) i ms.0 usual.tags proper.over (tags_of_atoms g.atoms text ms.0 ms.1)) [
        | inl t ↦ inl (t.0, by_file name text ms.0 t.0 short ms.1 t.1)
        | inr r ↦ inr (named_in g, r.0, bad_merges name text ms.0 r.0 short ms.1 r.1)
      ]
    ]
  ]

  in_mode : (mode : Mode) → Decided (of_mode mode) []
  in_mode mode = elim (made_decided mode usual g i proper) [
    | inl t ↦ inl (t.0, by_mode mode t.0 t.1)
    | inr r ↦ inr (named_in g, r.0, of_its_mode mode r.0 r.1)
  ]

pub some_table : SourcesAreDecided
some_table g i (of_mode mode) [] proper many = in_mode g i proper mode
some_table g i (of_mode mode) (text ∷ others) proper many = absurd (omega (arith, many))
some_table g i (of_file name) [] proper many = absurd (omega (arith, many))
some_table g i (of_file name) (text ∷ []) proper many = of_text g i proper name text
some_table g i (of_file name) (text ∷ other ∷ others) proper many = absurd (omega (arith, many))
