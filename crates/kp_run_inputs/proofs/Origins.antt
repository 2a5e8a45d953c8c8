-- What is read of a file is the front of some text, so each origin is that of some source; and the table that is answered of it.
use Rattle.std.proofs.Common.{Result, Ok, subst, ◌≡◌, ◌<◌, ◌++◌, ◌∙◌, ℕ, Bool, true, false, List, [], ◌∷◌, Some, length, refl, sym, arith}
use Rattle.std.proofs.lemmas.Bool.{lt-ltb, le-ltb}
use Rattle.std.proofs.lemmas.List.{take_all, take-append-le, length-append}
use Rattle.kp_base.specs.declared.ground.Ground.{Ground}
use Rattle.kp_base.specs.declared.ground.Initial.{Initial}
use Rattle.kp_base.specs.declared.ground.Merge.{Merge}
use Rattle.kp_base.specs.declared.ground.TagTable.{TagTable}
use Rattle.kp_base.specs.Entailed.{IsTable, AreValid}
use Rattle.kp_base.specs.Files.{most_bytes}
use Rattle.kp_base.specs.Implicates.{IsOfItsAtoms}
use Rattle.kp_base.specs.Lists.{Member}
use Rattle.kp_outside.specs.declared.outside.Got.{Got}
use Rattle.kp_outside.specs.Outside.{IsFront, IsWithin}
use Rattle.kp_words.specs.Asked.{Source, of_mode, of_file}
use Rattle.kp_run_prepare.specs.declared.prepared.Early.{Early}
use Rattle.kp_run_inputs.specs.declared.origin.Origin.{Origin}
use Rattle.kp_run_inputs.specs.declared.origin.Origin.TheVariants as origins
use Rattle.kp_run_inputs.specs.SourceTables.{HasTable, IsOrigin, from_mode, from_file, IsShort, AnswersTable}
use Rattle.kp_run_inputs.proofs.Right.{tables_right}
use Rattle.kp_run_inputs.proofs.TablesFor.{targets_are, target_within}

-- ---- origins

some_front : (most : ℕ) (got : Got) → IsWithin most got → (text : List ℕ) × IsFront (Some text) most got
some_front most got within = go got.more refl
  where
    go : (b : Bool) → got.more ≡ b → (text : List ℕ) × IsFront (Some text) most got
    go false e = (got.bytes, (sym (take_all most got.bytes within.0), e ∙ sym (le-ltb most (length got.bytes) within.0)))
    go true e =
        let full = within.1 e in
        let more = length-append got.bytes (0 ∷ []) in (
          got.bytes ++ 0 ∷ [],
          (sym (take-append-le most got.bytes (0 ∷ []) (omega (arith, full)) ∙ take_all most got.bytes within.0), e ∙ sym (lt-ltb most (length (got.bytes ++ 0 ∷ [])) (omega (arith, more, full)))),
        )

pub some_origin : (o : Origin) → IsShort o → (source : Source) × (merges : List (List ℕ)) × IsOrigin source merges o
some_origin (origins.Mode m) short = (of_mode m, [], from_mode m)
some_origin (origins.Merges got) short = let t = some_front most_bytes got short in (of_file [], t.0 ∷ [], from_file [] t.0 got t.1)

-- ---- tables

module _ (g : Ground) (i : Initial) (o : Origin) (short : IsShort o) (own : IsOfItsAtoms g) (table : TagTable) (r : Result TagTable Early) (is : r ≡ Ok table) (answers : (source : Source) (merges : List (List ℕ)) → IsOrigin source merges o → AnswersTable g i source merges r) where
  its : HasTable g i (some_origin o short).0 (some_origin o short).1 table
  its = let x = some_origin o short in subst (AnswersTable g i x.0 x.1) is (answers x.0 x.1 x.2)

  -- the table of an origin is right, its merges are valid, and their targets are of the ground atoms
  pub table_right : IsTable g i table
  table_right = (tables_right g i _ _ table own its).0

  pub table_valid : AreValid i table
  table_valid = (tables_right g i _ _ table own its).1

  pub table_targets : (m : Merge) → Member table.merges m → m.target.atom.0 < length g.atoms
  table_targets = target_within g.atoms table.merges (targets_are g i _ _ table own its)
